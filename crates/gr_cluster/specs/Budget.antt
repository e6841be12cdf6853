-- How many crashes a run bears.
use Rattle.std.specs.Prelude.{ℕ, zero, suc, ◌+◌, Bool, ◌&&◌, nat_lt, nat_le, min, Option, Some, None, length, IsTrue, if◌then◌else◌}
use Rattle.std.specs.List.{list_all}
use Rattle.gr_program.specs.Program.{Program}
use Rattle.gr_batch.specs.declared.outcome.Outcome.{Outcome}
use Rattle.gr_batch.specs.declared.outcome.Outcome.TheVariants as outcome
use Rattle.gr_sched.specs.declared.event.Event.{Event}
use Rattle.gr_view.specs.Modes.{is_rebuild}
use Rattle.gr_cluster.specs.Tables.{Cluster}
use Rattle.gr_cluster.specs.Directory.{directory_of}
use Rattle.gr_cluster.specs.Step.{step}
use Rattle.gr_cluster.specs.Runs.{Position, next_event, next_position}

-- each vertex has as many holders as bear the losses, or as there are live places
unfoldable pub is_restored : {V A : Type 0} → Cluster V A → Bool
is_restored c = list_all (λ e. nat_le (min (c.losses + 1) (length c.coordinator.live)) (length e.holders)) (directory_of c)

-- the crashes since the last restored state, and the number of places that were live at it
pub record Losses : Type 0 where
  pub crashes : ℕ
  pub live : ℕ

abbrev pub no_losses : {V A : Type 0} → Cluster V A → Losses
no_losses c = record { crashes = 0; live = length c.coordinator.live }

-- the count after a step: a crash that was enabled is one more, and the commit of a rebuild may restore
abbrev pub losses_after_step : {V A : Type 0} → Cluster V A → Outcome V A → Cluster V A → Losses → Losses
losses_after_step before (outcome.Crashed n) after l = record { crashes = l.crashes + 1; live = l.live }
losses_after_step before (outcome.Committed c r d) after l =
    if is_rebuild before.coordinator.mode && is_restored after then no_losses after else l
losses_after_step before _ after l = l

-- they are at most as many as the copies bear, and fewer than the places that were live
abbrev pub are_borne : ℕ → Losses → Bool
are_borne losses l = nat_le l.crashes losses && nat_lt l.crashes l.live

module _ {V A : Type 0} (P : Program V A) where
  abbrev pub losses_by : Position V A → Option Event → Losses → Losses
  losses_by s None l = l
  losses_by s (Some e) l = let r = step P s.cluster e in losses_after_step s.cluster r.1 r.0 l

  unfoldable pub losses_after : ℕ → Position V A → Losses → Losses
  losses_after zero s l = l
  losses_after (suc n) s l = losses_after n (next_position P s) (losses_by s (next_event s) l)

  -- the losses of a run from load are borne at every step
  abbrev pub IsWithinBudget : Position V A → Type 0
  IsWithinBudget start = (n : ℕ) → IsTrue (are_borne start.cluster.losses (losses_after n start (no_losses start.cluster)))
