-- A repair opens in the place of a round.
use Rattle.std.proofs.Common.{◌≡◌, refl, ap}
use Rattle.gr_program.specs.Program.{Program}
use Rattle.gr_sched.specs.declared.event.Event.TheVariants as event
use Rattle.gr_view.specs.declared.coordinator.Mode.{Mode}
use Rattle.gr_view.specs.declared.coordinator.Mode.TheVariants as mode
use Rattle.gr_view.specs.Modes.{is_over, is_open}
use Rattle.gr_view.specs.Decisions.{at_repair}
use Rattle.gr_cluster.specs.Tables.{Cluster}
use Rattle.gr_cluster.specs.Step.{with_coordinator, opened_or_idle, repaired, step}
use Rattle.gr_agree.specs.Truth.{Truth}
use Rattle.gr_agree.specs.Places.{may_have_dead}
use Rattle.gr_agree.specs.Agree.{Agree}
use Rattle.gr_law_rounds.specs.Network.{IsKept}
use Rattle.gr_law_rebuilds.specs.Epoch.{IsNewEpoch}
use Rattle.gr_lists.proofs.Tests.{by_test}
use Rattle.gr_law_rebuilds.proofs.Epoch.Anew.{anew-kept}

module _ {V A : Type 0} (P : Program V A) (t : Truth V) (c : Cluster V A) (AG : Agree P t c) where
  abbrev Keeps : Cluster V A → Type 0
  Keeps d = IsNewEpoch c d → IsKept P t c d

  by-mode : (m : Mode) → c.coordinator.mode ≡ m → Keeps (opened_or_idle c (at_repair c.coordinator m).1 (with_coordinator (at_repair c.coordinator m).0 c)).0
  unfolding at_repair
  by-mode mode.Running e = λ new. anew-kept P t c AG mode.Repairing (ap is_open e) (ap may_have_dead e) refl refl
  by-mode _ e = λ new. absurd (new refl)

  pub repair-kept : Keeps (step P c event.Repair).0
  unfolding step repaired
  repair-kept = by_test (is_over c.coordinator.mode)
      (λ o. rw o (λ new. absurd (new refl)))
      (λ o. rw o (by-mode c.coordinator.mode refl))
