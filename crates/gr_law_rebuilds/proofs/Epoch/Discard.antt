-- A discard, in each mode.
use Rattle.std.proofs.Common.{◌≡◌, ℕ, List, true, false, refl, ap, inl}
use Rattle.std.specs.Prelude.{if◌then◌else◌}
use Rattle.std.proofs.lemmas.Bool.{or_left}
use Rattle.gr_program.specs.Program.{Program}
use Rattle.gr_batch.specs.declared.outcome.Outcome.{Outcome}
use Rattle.gr_sched.specs.declared.event.Event.TheVariants as event
use Rattle.gr_view.specs.declared.coordinator.Mode.{Mode}
use Rattle.gr_view.specs.declared.coordinator.Mode.TheVariants as mode
use Rattle.gr_view.specs.Modes.{is_over, is_open, is_recovery}
use Rattle.gr_view.specs.Decisions.{parties, going_back, at_discard}
use Rattle.gr_cluster.specs.Tables.{Cluster}
use Rattle.gr_cluster.specs.Step.{down_among, without_hosts, with_coordinator, discarded_or_idle, discarded, step}
use Rattle.gr_agree.specs.Truth.{Truth}
use Rattle.gr_agree.specs.Places.{may_have_dead}
use Rattle.gr_agree.specs.Agree.{Agree}
use Rattle.gr_lists.proofs.Tests.{by_test}
use Rattle.gr_law_rounds.specs.Network.{IsKept}
use Rattle.gr_law_rebuilds.specs.Epoch.{IsLater, IsNewEpoch}
use Rattle.gr_law_rebuilds.proofs.Rebuild.Stages.{not-over}
use Rattle.gr_law_rebuilds.proofs.Epoch.Agrees.{opened-later}
use Rattle.gr_law_rebuilds.proofs.Epoch.Anew.{anew-kept, open-not_done}
use Rattle.gr_law_rebuilds.proofs.Epoch.Places.{down-among}
use Rattle.gr_law_rebuilds.proofs.Epoch.Returns.{returned, Returns, returned-opens}

module _ {V A : Type 0} (P : Program V A) (t : Truth V) (c : Cluster V A) (AG : Agree P t c) where
  abbrev crashed : List ℕ
  crashed = down_among c (parties c.coordinator)

  -- what a discard in this mode makes of the cluster
  abbrev discarded_in : Mode → Cluster V A × Outcome V A
  discarded_in m =
      let decision = at_discard c.coordinator crashed m in
      discarded_or_idle c decision.1 (with_coordinator decision.0 (if is_recovery m then without_hosts (going_back c.coordinator crashed) c else c))

  work-kept : (m : Mode) → c.coordinator.mode ≡ m → is_recovery m ≡ false → IsNewEpoch c (discarded_in m).0 → IsKept P t c (discarded_in m).0
  unfolding at_discard
  work-kept mode.Running e other = λ new. anew-kept P t c AG mode.Running (ap is_open e) (ap may_have_dead e) refl refl
  work-kept mode.Repairing e other = λ new. anew-kept P t c AG mode.Running (ap is_open e) (ap may_have_dead e) refl refl
  work-kept mode.Recovering e other = absurd (let bad : true ≡ false = other in cc)
  work-kept _ e other = λ new. absurd (new refl)

  pub discard-kept : is_recovery c.coordinator.mode ≡ false → IsNewEpoch c (step P c event.Discard).0 → IsKept P t c (step P c event.Discard).0
  unfolding step discarded
  discard-kept other = by_test (is_over c.coordinator.mode)
      (λ o. rw o (λ new. absurd (new refl)))
      (λ o. rw o (work-kept c.coordinator.mode refl other))

  -- no place is found dead
  nobody-dies : Returns P t c AG crashed c.coordinator.live c.coordinator.dead
  nobody-dies = record {
    live_places = AG.committed.shaped.live;
    dead_places = AG.committed.shaped.dead;
    one_set = λ p. refl;
    was_live = λ p l. l;
    was_dead = λ p k. inl k;
    crashed = λ p m. (down-among c (parties c.coordinator) p m).1;
  }

  -- the live places stay, and what is committed there
  abbrev Keeps : Cluster V A → Type 0
  Keeps r = (r.coordinator.live ≡ c.coordinator.live) × IsLater P t c r

  recovery-later : (m : Mode) → c.coordinator.mode ≡ m → is_recovery m ≡ true → Keeps (discarded_in m).0
  unfolding at_discard
  recovery-later mode.Recovering e y = (
    refl,
    opened-later P t c AG (returned P t c AG crashed c.coordinator.live c.coordinator.dead)
        (returned-opens P t c AG crashed c.coordinator.live c.coordinator.dead nobody-dies (open-not_done c.coordinator.mode (ap is_open e))),
  )
  recovery-later mode.Running e y = absurd (let bad : false ≡ true = y in cc)
  recovery-later _ e y = absurd (let bad : false ≡ true = y in cc)

  pub discard-later : is_recovery c.coordinator.mode ≡ true → Keeps (step P c event.Discard).0
  unfolding step discarded
  discard-later y = let o = not-over c.coordinator.mode (or_left _ _ y) in rw o (recovery-later c.coordinator.mode refl y)
