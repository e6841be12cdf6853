-- The outcome of a step goes with its event.
use Rattle.std.proofs.Common.{◌≡◌, ℕ, List, true, refl, Option, Some, None, nat_lt, slice_get, length, if◌then◌else◌}
use Rattle.std.specs.Prelude.{is_none}
use Rattle.gr_program.specs.Program.{Program}
use Rattle.gr_batch.specs.declared.batch.Batch.{Batch}
use Rattle.gr_batch.specs.declared.outcome.Outcome.TheVariants as outcome
use Rattle.gr_sched.specs.declared.event.Event.{Event}
use Rattle.gr_sched.specs.declared.event.Event.TheVariants as event
use Rattle.gr_view.specs.declared.coordinator.Coordinator.{Coordinator}
use Rattle.gr_view.specs.declared.coordinator.Verdict.{Verdict}
use Rattle.gr_view.specs.declared.coordinator.Verdict.TheVariants as verdict
use Rattle.gr_view.specs.declared.coordinator.Opening.{Opening}
use Rattle.gr_view.specs.declared.coordinator.Opening.TheVariants as opening
use Rattle.gr_view.specs.Modes.{is_over, is_recovery}
use Rattle.gr_view.specs.Decisions.{parties, looked_at, going_back, at_barrier, at_recovery, at_repair, at_discard}
use Rattle.gr_rules.specs.Todo.{Todo}
use Rattle.gr_report.specs.Goes.{goes_with}
use Rattle.gr_cluster.specs.Tables.{Host, Cluster, host}
use Rattle.gr_cluster.specs.Todo.{todo}
use Rattle.gr_cluster.specs.Work.{worked, worked_at}
use Rattle.gr_cluster.specs.Network.{delivered, dropped, crashed}
use Rattle.gr_cluster.specs.Step.{down_among, without_hosts, with_coordinator, after_verdict, barred, lost_list, after_opening, recovered, opened_or_idle, repaired, discarded_or_idle, discarded, taken_step, step}
use Rattle.gr_lists.proofs.Tests.{by_test}

module _ {V A : Type 0} (P : Program V A) (c : Cluster V A) where
  worked-goes : (p : ℕ) (h : Host V A) (x : Todo) → goes_with (event.Work p) (worked P c p h x).1 ≡ true
  unfolding worked
  worked-goes p h Todo.Install = refl
  worked-goes p h _ = refl

  worked_at-goes : (p : ℕ) (o : Option (Host V A)) → goes_with (event.Work p) (worked_at P c p o).1 ≡ true
  worked_at-goes p None = refl
  worked_at-goes p (Some h) = worked-goes p h (todo c.coordinator p h)

  delivered-goes : (i : ℕ) (o : Option (Batch V A)) → goes_with (event.Deliver i) (delivered c i o).1 ≡ true
  unfolding delivered
  delivered-goes i None = refl
  delivered-goes i (Some b) = refl

  dropped-goes : (i : ℕ) (o : Option (Batch V A)) → goes_with (event.Discarded i) (dropped c i o).1 ≡ true
  unfolding dropped
  dropped-goes i None = refl
  dropped-goes i (Some b) = by_test (nat_lt b.epoch c.coordinator.epoch)
      (λ e. rw e refl)
      (λ e. by_test (is_none (host c b.sender)) (λ k. rw (e, k) refl) (λ k. rw (e, k) refl))

  verdict-goes : (ps : List ℕ) (co : Coordinator) (v : Verdict) → goes_with event.Barrier (after_verdict c ps co v).1 ≡ true
  verdict-goes ps co (verdict.Failed qs) = refl
  verdict-goes ps co _ = refl

  barred-goes : goes_with event.Barrier (barred c).1 ≡ true
  unfolding barred
  barred-goes = let ps = down_among c (looked_at c.coordinator) in verdict-goes ps (at_barrier c.coordinator ps).0 (at_barrier c.coordinator ps).1

  crashed-goes : (p n : ℕ) (o : Option (Host V A)) → goes_with (event.Crash p n) (crashed c p n o).1 ≡ true
  unfolding crashed
  crashed-goes p n None = refl
  crashed-goes p n (Some h) = refl

  opening-goes : (qs ps : List ℕ) (co : Coordinator) (o : Opening) → goes_with (event.Recover qs) (after_opening c ps co o).1 ≡ true
  opening-goes qs ps co (opening.Opened e) = refl
  opening-goes qs ps co _ = refl

  repaired-goes : (o : Option ℕ) (d : Cluster V A) → goes_with event.Repair (opened_or_idle c o d).1 ≡ true
  repaired-goes None d = refl
  repaired-goes (Some e) d = refl

  discarded-goes : (o : Option ℕ) (d : Cluster V A) → goes_with event.Discard (discarded_or_idle c o d).1 ≡ true
  discarded-goes None d = refl
  discarded-goes (Some e) d = refl

  taken-goes : (e : Event) → goes_with e (taken_step P c e).1 ≡ true
  unfolding recovered repaired discarded
  taken-goes (event.Work p) = worked_at-goes p (host c p)
  taken-goes (event.Deliver i) = delivered-goes i (slice_get c.flight i)
  taken-goes (event.Discarded i) = dropped-goes i (slice_get c.flight i)
  taken-goes (event.Crash p n) = crashed-goes p n (host c p)
  taken-goes event.Barrier = barred-goes
  taken-goes (event.Recover ps) = let x = at_recovery c.coordinator ps (nat_lt 0 (length (lost_list c))) in opening-goes ps ps x.0 x.1
  taken-goes event.Repair = let x = at_repair c.coordinator c.coordinator.mode in repaired-goes x.1 (with_coordinator x.0 c)
  taken-goes event.Discard =
      let ps = down_among c (parties c.coordinator) in
      let x = at_discard c.coordinator ps c.coordinator.mode in
      discarded-goes x.1 (with_coordinator x.0 (if is_recovery c.coordinator.mode then without_hosts (going_back c.coordinator ps) c else c))

  idle-goes : (e : Event) → goes_with {V = V} {A = A} e outcome.Idle ≡ true
  idle-goes (event.Work p) = refl
  idle-goes (event.Deliver i) = refl
  idle-goes (event.Discarded i) = refl
  idle-goes event.Barrier = refl
  idle-goes (event.Crash p n) = refl
  idle-goes (event.Recover ps) = refl
  idle-goes event.Repair = refl
  idle-goes event.Discard = refl

  pub step-goes : (e : Event) → goes_with e (step P c e).1 ≡ true
  unfolding step
  step-goes e = by_test (is_over c.coordinator.mode) (λ o. rw o (idle-goes e)) (λ o. rw o (taken-goes e))
