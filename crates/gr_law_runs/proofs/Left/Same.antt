-- What no event changes: how many places there are, and, where it begins a new epoch, the batches in flight.
use Rattle.std.proofs.Common.{◌≡◌, ℕ, List, refl, sym, subst, ap, Option, Some, None, nat_lt, length, slice_get, ◌⊎◌, inl, inr}
use Rattle.gr_program.specs.Program.{Program}
use Rattle.gr_batch.specs.declared.outcome.Outcome.{Outcome}
use Rattle.gr_sched.specs.declared.event.Event.{Event}
use Rattle.gr_sched.specs.declared.event.Event.TheVariants as event
use Rattle.gr_view.specs.declared.coordinator.Coordinator.{Coordinator}
use Rattle.gr_view.specs.declared.coordinator.Verdict.{Verdict}
use Rattle.gr_view.specs.declared.coordinator.Verdict.TheVariants as verdict
use Rattle.gr_view.specs.declared.coordinator.Opening.{Opening}
use Rattle.gr_view.specs.declared.coordinator.Opening.TheVariants as opening
use Rattle.gr_view.specs.Modes.{is_over, is_rebuild, is_recovery}
use Rattle.gr_view.specs.Decisions.{parties, looked_at, going_back, at_barrier, at_recovery, at_repair, at_discard}
use Rattle.gr_cluster.specs.Tables.{Cluster, host}
use Rattle.gr_cluster.specs.Step.{down_among, without_hosts, with_coordinator, after_verdict, barred, lost_list, after_opening, recovered, opened_or_idle, repaired, discarded_or_idle, discarded, taken_step, step}
use Rattle.gr_lists.proofs.Tests.{by_test}
use Rattle.gr_law_rounds.proofs.Network.Unruled.{IsAside, worked_at-aside, delivered-aside, dropped-aside, crashed-aside, worked_at-unruled, delivered-unruled, dropped-unruled, crashed-unruled}
use Rattle.gr_law_runs.proofs.Left.Less.{step-over, step-taken}

module _ {V A : Type 0} (P : Program V A) (c : Cluster V A) where
  -- a decision of the coordinator leaves the places, the losses that are borne and the batches in flight
  record IsDecision (d : Cluster V A) : Type 0 where
    places : d.places ≡ c.places
    losses : d.losses ≡ c.losses
    flight : d.flight ≡ c.flight

  verdict-leaves : (ps : List ℕ) (co : Coordinator) (v : Verdict) → IsDecision (after_verdict c ps co v).0
  verdict-leaves ps co (verdict.Failed qs) = record { places = refl; losses = refl; flight = refl }
  verdict-leaves ps co (verdict.Committed n r d) = by_test (is_rebuild c.coordinator.mode)
      (λ y. rw y (record { places = refl; losses = refl; flight = refl }))
      (λ y. rw y (record { places = refl; losses = refl; flight = refl }))
  verdict-leaves ps co (verdict.NotReady p) = record { places = refl; losses = refl; flight = refl }
  verdict-leaves ps co verdict.Idle = record { places = refl; losses = refl; flight = refl }

  opening-leaves : (ps : List ℕ) (co : Coordinator) (o : Opening) → IsDecision (after_opening c ps co o).0
  opening-leaves ps co (opening.Opened e) = record { places = refl; losses = refl; flight = refl }
  opening-leaves ps co _ = record { places = refl; losses = refl; flight = refl }

  opened-leaves : (o : Option ℕ) (d : Cluster V A) → IsDecision d → IsDecision (opened_or_idle c o d).0
  opened-leaves None d D = record { places = refl; losses = refl; flight = refl }
  opened-leaves (Some e) d D = D

  discarded-leaves : (o : Option ℕ) (d : Cluster V A) → IsDecision d → IsDecision (discarded_or_idle c o d).0
  discarded-leaves None d D = record { places = refl; losses = refl; flight = refl }
  discarded-leaves (Some e) d D = D

  barrier-leaves : IsDecision (barred c).0
  unfolding barred
  barrier-leaves = let ps = down_among c (looked_at c.coordinator) in verdict-leaves ps (at_barrier c.coordinator ps).0 (at_barrier c.coordinator ps).1

  recovery-leaves : (ps : List ℕ) → IsDecision (recovered c ps).0
  unfolding recovered
  recovery-leaves ps = let x = at_recovery c.coordinator ps (nat_lt 0 (length (lost_list c))) in opening-leaves ps x.0 x.1

  repair-leaves : IsDecision (repaired c).0
  unfolding repaired
  repair-leaves = let x = at_repair c.coordinator c.coordinator.mode in opened-leaves x.1 (with_coordinator x.0 c) (record { places = refl; losses = refl; flight = refl })

  discard-leaves : IsDecision (discarded c).0
  unfolding discarded
  discard-leaves =
      let ps = down_among c (parties c.coordinator) in
      let x = at_discard c.coordinator ps c.coordinator.mode in by_test (is_recovery c.coordinator.mode)
      (λ r. rw r (discarded-leaves x.1 (with_coordinator x.0 (without_hosts (going_back c.coordinator ps) c)) (record { places = refl; losses = refl; flight = refl })))
      (λ r. rw r (discarded-leaves x.1 (with_coordinator x.0 c) (record { places = refl; losses = refl; flight = refl })))

  abbrev IsSame : Cluster V A → Type 0
  IsSame d = (d.places ≡ c.places) × (d.losses ≡ c.losses)

  aside-same : (r : Cluster V A × Outcome V A) → IsAside P c r → IsSame r.0
  aside-same r A = (A.places, A.losses)

  decision-same : (d : Cluster V A) → IsDecision d → IsSame d
  decision-same d D = (D.places, D.losses)

  taken-same : (e : Event) → IsSame (taken_step P c e).0
  taken-same (event.Work p) = aside-same _ (worked_at-aside P c p (host c p))
  taken-same (event.Deliver i) = aside-same _ (delivered-aside P c i (slice_get c.flight i))
  taken-same (event.Discarded i) = aside-same _ (dropped-aside P c i (slice_get c.flight i))
  taken-same (event.Crash p n) = aside-same _ (crashed-aside P c p n (host c p))
  taken-same event.Barrier = decision-same _ barrier-leaves
  taken-same (event.Recover ps) = decision-same _ (recovery-leaves ps)
  taken-same event.Repair = decision-same _ repair-leaves
  taken-same event.Discard = decision-same _ discard-leaves

  step-same : (e : Event) → IsSame (step P c e).0
  step-same e = by_test (is_over c.coordinator.mode)
      (λ o. (ap (λ (d : Cluster V A). d.places) (step-over P c o e), ap (λ (d : Cluster V A). d.losses) (step-over P c o e)))
      (λ o. subst (λ r. IsSame r.0) (sym (step-taken P c o e)) (taken-same e))

  -- no event changes how many places there are, or how many losses the job is to bear
  pub step-places : (e : Event) → (step P c e).0.places ≡ c.places
  step-places e = (step-same e).0

  pub losses-step : (e : Event) → (step P c e).0.losses ≡ c.losses
  losses-step e = (step-same e).1

  abbrev StaysOrKeeps : Cluster V A → Type 0
  StaysOrKeeps d = (d.coordinator.epoch ≡ c.coordinator.epoch) ⊎ (d.flight ≡ c.flight)

  taken-stays : (e : Event) → StaysOrKeeps (taken_step P c e).0
  taken-stays (event.Work p) = inl (worked_at-unruled P c p (host c p)).epoch
  taken-stays (event.Deliver i) = inl (delivered-unruled P c i (slice_get c.flight i)).epoch
  taken-stays (event.Discarded i) = inl (dropped-unruled P c i (slice_get c.flight i)).epoch
  taken-stays (event.Crash p n) = inl (crashed-unruled P c p n (host c p)).epoch
  taken-stays event.Barrier = inr barrier-leaves.flight
  taken-stays (event.Recover ps) = inr (recovery-leaves ps).flight
  taken-stays event.Repair = inr repair-leaves.flight
  taken-stays event.Discard = inr discard-leaves.flight

  -- an event stays in its epoch, or leaves the batches in flight as they are
  pub step-stays : (e : Event) → StaysOrKeeps (step P c e).0
  step-stays e = by_test (is_over c.coordinator.mode)
      (λ o. inr (ap (λ d. d.flight) (step-over P c o e)))
      (λ o. subst (λ r. StaysOrKeeps r.0) (sym (step-taken P c o e)) (taken-stays e))

  -- a recovery leaves them in any case
  pub recover-flight : (ps : List ℕ) → (step P c (event.Recover ps)).0.flight ≡ c.flight
  recover-flight ps = by_test (is_over c.coordinator.mode)
      (λ o. ap (λ d. d.flight) (step-over P c o (event.Recover ps)))
      (λ o. subst (λ r. r.0.flight ≡ c.flight) (sym (step-taken P c o (event.Recover ps))) (recovery-leaves ps).flight)
