-- The batches in flight and in the inboxes.
use Rattle.std.specs.Prelude.{ℕ, ◌+◌, ◌≡◌, ◌≢◌, ◌≤◌, Bool, false, not, ◌&&◌, ◌||◌, ◌==◌, nat_lt, cond, IsTrue, List, Option, Some, None, is_some, count_by}
use Rattle.std.specs.List.{AllByRecursion as Each}
use Rattle.gr_base.specs.Rising.{has}
use Rattle.gr_program.specs.Program.{Program}
use Rattle.gr_copies.specs.declared.view.RebuildView.{RebuildView}
use Rattle.gr_batch.specs.declared.batch.Batch.{Batch}
use Rattle.gr_batch.specs.declared.stage.Stage.{Stage}
use Rattle.gr_batch.specs.Stages.{is_stage, is_end}
use Rattle.gr_batch.specs.Order.{place_in}
use Rattle.gr_batch.specs.Bodies.{stage_of_body, is_of, is_from}
use Rattle.gr_view.specs.declared.coordinator.Coordinator.{Coordinator}
use Rattle.gr_view.specs.Decisions.{parties}
use Rattle.gr_cluster.specs.Tables.{Host, inbox_of}
use Rattle.gr_cluster.specs.Stages.{stages_of, has_stage}
use Rattle.gr_agree.specs.Truth.{Truth}
use Rattle.gr_agree.specs.TrueBody.{TrueBody}

-- whether the line of a host shows its batch of a stage to q as sent in the epoch
abbrev pub shows_sent : {V A : Type 0} → Coordinator → ℕ → Host V A → Stage → Bool
shows_sent co q h s =
    (h.epoch == co.epoch) && ((has_stage (stages_of co.mode) s && not (is_end s)) && (nat_lt (place_in s) (place_in h.stage) || (is_stage s h.stage && has h.sent q)))

abbrev pub is_shown : {V A : Type 0} → Coordinator → ℕ → Option (Host V A) → Stage → Bool
is_shown co q None s = false
is_shown co q (Some h) s = shows_sent co q h s

-- how many batches of this sender, receiver, epoch and stage stand in the flight and in the inbox of the receiver
abbrev pub standing : {V A : Type 0} → List (Batch V A) → Option (Host V A) → ℕ → ℕ → ℕ → Stage → ℕ
standing flight receiver p q e s = count_by (is_from p q e s) flight + count_by (is_of p e s) (inbox_of receiver)

module _ {V A : Type 0} (P : Program V A) (w : RebuildView) (want : ℕ) (t : Truth V) (co : Coordinator) where
  pub record BatchHolds (b : Batch V A) : Type 0 where
    -- it goes to another place, and is of no later epoch
    pub apart : b.sender ≢ b.receiver
    pub epoch : b.epoch ≤ co.epoch
    -- in the present epoch it goes from party to party, in a stage of the mode, and holds what the committed state says
    pub sender : b.epoch ≡ co.epoch → IsTrue (has (parties co) b.sender)
    pub receiver : b.epoch ≡ co.epoch → IsTrue (has (parties co) b.receiver)
    pub stage : b.epoch ≡ co.epoch → IsTrue (has_stage (stages_of co.mode) (stage_of_body b.body))
    pub body : b.epoch ≡ co.epoch → TrueBody P w want t b.sender b.receiver b.body

  pub record NetworkHolds (host_of : ℕ → Option (Host V A)) (flight : List (Batch V A)) : Type 0 where
    -- each batch in flight, and each in an inbox, which is that of its receiver
    pub in_flight : Each BatchHolds flight
    pub in_inbox : (q : ℕ) → Each (λ b. BatchHolds b × (b.receiver ≡ q)) (inbox_of (host_of q))
    -- at most one of a sender, receiver, epoch and stage
    pub at_most_one : (p q e : ℕ) (s : Stage) → standing flight (host_of q) p q e s ≤ 1
    -- one of the present epoch whose sender is up stands only where the sender's line shows it as sent
    pub only_sent : (p q : ℕ) (s : Stage) → IsTrue (is_some (host_of p)) → standing flight (host_of q) p q co.epoch s ≤ cond (is_shown co q (host_of p) s) 1 0
    -- and where both ends are up it stands
    pub all_sent : (p q : ℕ) (s : Stage) → IsTrue (is_some (host_of p)) → IsTrue (is_some (host_of q)) → IsTrue (has (parties co) p) → IsTrue (has (parties co) q) → p ≢ q → standing flight (host_of q) p q co.epoch s ≡ cond (is_shown co q (host_of p) s) 1 0
