-- Every event that opens a new epoch without a commit is a failure, a recovery, a repair or a discard.
use Rattle.std.proofs.Common.{◌≡◌, false, refl, slice_get}
use Rattle.gr_program.specs.Program.{Program}
use Rattle.gr_sched.specs.declared.event.Event.{Event}
use Rattle.gr_sched.specs.declared.event.Event.TheVariants as event
use Rattle.gr_view.specs.Modes.{is_over, is_recovery}
use Rattle.gr_cluster.specs.Tables.{Cluster, host}
use Rattle.gr_cluster.specs.Step.{taken_step, step}
use Rattle.gr_cluster.specs.Runs.{is_commit}
use Rattle.gr_agree.specs.Truth.{Truth}
use Rattle.gr_agree.specs.Agree.{Agree}
use Rattle.gr_agree.specs.Accepted.{NamesPlaces}
use Rattle.gr_lists.proofs.Tests.{by_test}
use Rattle.gr_law_rounds.specs.Network.{IsKept}
use Rattle.gr_law_rounds.proofs.Network.Unruled.{worked_at-unruled, delivered-unruled, dropped-unruled, crashed-unruled}
use Rattle.gr_law_rebuilds.specs.Epoch.{IsLater, IsNewEpoch}
use Rattle.gr_law_rebuilds.proofs.Epoch.Repair.{repair-kept}
use Rattle.gr_law_rebuilds.proofs.Epoch.Crashes.{barrier-later}
use Rattle.gr_law_rebuilds.proofs.Epoch.Discard.{discard-kept, discard-later}
use Rattle.gr_law_rebuilds.proofs.Epoch.Recovery.{recovery-later}

module _ {V A : Type 0} (P : Program V A) (c : Cluster V A) where
  abbrev Stays : Cluster V A → Type 0
  Stays d = d.coordinator.epoch ≡ c.coordinator.epoch

  -- where a step takes the cluster that stays in its epoch, whatever the step is
  step-stays : (e : Event) → Stays (taken_step P c e).0 → Stays (step P c e).0
  unfolding step
  step-stays e s = by_test (is_over c.coordinator.mode) (λ o. rw o refl) (λ o. rw o s)

module _ {V A : Type 0} (P : Program V A) (t : Truth V) (c : Cluster V A) (AG : Agree P t c) where
  kept-later : (d : Cluster V A) → IsKept P t c d → IsLater P t c d
  kept-later d K = let S = K.0 in (
    record {
      rows = λ p l. S.rows p;
      arcs = λ p l. S.arcs p;
      logs = S.logs;
    },
    K.1,
  )

  pub new_epoch-later : (e : Event) → NamesPlaces e → is_commit (step P c e).1 ≡ false → IsNewEpoch c (step P c e).0 → IsLater P t c (step P c e).0
  new_epoch-later (event.Work p) names none new = absurd (new (step-stays P c (event.Work p) (worked_at-unruled P c p (host c p)).epoch))
  new_epoch-later (event.Deliver i) names none new = absurd (new (step-stays P c (event.Deliver i) (delivered-unruled P c i (slice_get c.flight i)).epoch))
  new_epoch-later (event.Discarded i) names none new = absurd (new (step-stays P c (event.Discarded i) (dropped-unruled P c i (slice_get c.flight i)).epoch))
  new_epoch-later (event.Crash p n) names none new = absurd (new (step-stays P c (event.Crash p n) (crashed-unruled P c p n (host c p)).epoch))
  new_epoch-later event.Barrier names none new = (barrier-later P t c AG none new).1
  new_epoch-later (event.Recover ps) names none new = (recovery-later P t c AG ps names new).1
  new_epoch-later event.Repair names none new = kept-later _ (repair-kept P t c AG new)
  new_epoch-later event.Discard names none new = by_test (is_recovery c.coordinator.mode)
      (λ y. (discard-later P t c AG y).1)
      (λ other. kept-later _ (discard-kept P t c AG other new))
