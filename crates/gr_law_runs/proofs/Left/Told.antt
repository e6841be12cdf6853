-- The epoch rises in a step by one where the outcome says so, and stays where it does not.
use Rattle.std.proofs.Common.{◌≡◌, ℕ, ◌+◌, List, [], ◌∷◌, false, cond, ◌||◌, refl, arith, Option, Some, None, nat_lt, length, slice_get, if◌then◌else◌}
use Rattle.std.specs.Prelude.{is_none}
use Rattle.gr_program.specs.Program.{Program}
use Rattle.gr_batch.specs.declared.batch.Batch.{Batch}
use Rattle.gr_batch.specs.declared.outcome.Outcome.{Outcome}
use Rattle.gr_sched.specs.declared.event.Event.{Event}
use Rattle.gr_sched.specs.declared.event.Event.TheVariants as event
use Rattle.gr_view.specs.declared.coordinator.Mode.{Mode}
use Rattle.gr_view.specs.declared.coordinator.Mode.TheVariants as mode
use Rattle.gr_view.specs.Modes.{is_failed, is_over, is_rebuild, is_recovery}
use Rattle.gr_view.specs.Decisions.{parties, looked_at, unready, verdict_on, at_barrier, may_recover, at_recovery, at_repair, at_discard, going_back}
use Rattle.gr_rules.specs.Todo.{Todo}
use Rattle.gr_cluster.specs.Tables.{Host, Cluster, host}
use Rattle.gr_cluster.specs.Todo.{todo}
use Rattle.gr_cluster.specs.Work.{worked, worked_at}
use Rattle.gr_cluster.specs.Network.{delivered, dropped, crashed}
use Rattle.gr_cluster.specs.Step.{down_among, without_hosts, with_coordinator, after_verdict, barred, lost_list, recovered, opened_or_idle, repaired, discarded_or_idle, discarded, taken_step, step}
use Rattle.gr_agree.specs.Bounds.{opens_epoch}
use Rattle.gr_lists.proofs.Tests.{by_test, by_option}

module _ {V A : Type 0} (c : Cluster V A) where
  -- what the outcome says of the epoch
  abbrev IsTold : Cluster V A × Outcome V A → Type 0
  IsTold r = r.0.coordinator.epoch ≡ c.coordinator.epoch + cond (opens_epoch r.1) 1 0

  module _ (P : Program V A) where
    worked-told : (p : ℕ) (h : Host V A) (x : Todo) → IsTold (worked P c p h x)
    unfolding worked
    worked-told p h Todo.Install = omega arith
    worked-told p h _ = omega arith

    worked_at-told : (p : ℕ) (o : Option (Host V A)) → IsTold (worked_at P c p o)
    worked_at-told p None = omega arith
    worked_at-told p (Some h) = worked-told p h (todo c.coordinator p h)

  delivered-told : (i : ℕ) (o : Option (Batch V A)) → IsTold (delivered c i o)
  unfolding delivered
  delivered-told i None = omega arith
  delivered-told i (Some b) = omega arith

  dropped-told : (i : ℕ) (o : Option (Batch V A)) → IsTold (dropped c i o)
  unfolding dropped
  dropped-told i None = omega arith
  dropped-told i (Some b) = by_test (nat_lt b.epoch c.coordinator.epoch || is_none (host c b.sender))
      (λ y. rw y (omega arith))
      (λ y. rw y (omega arith))

  crashed-told : (p n : ℕ) (o : Option (Host V A)) → IsTold (crashed c p n o)
  unfolding crashed
  crashed-told p n None = omega arith
  crashed-told p n (Some h) = omega arith

  verdict-told : (ps : List ℕ) → IsTold (after_verdict c ps (verdict_on c.coordinator ps).0 (verdict_on c.coordinator ps).1)
  verdict-told [] = by_test (is_failed c.coordinator.mode)
      (λ f. rw f (omega arith))
      (λ f. rw f (by_option (unready c.coordinator)
      (λ u. rw u (by_test (is_rebuild c.coordinator.mode)
      (λ r. rw r refl)
      (λ r. rw r refl)))
      (λ p u. rw u (omega arith))))
  verdict-told (p ∷ ps) = refl

  barred-told : is_over c.coordinator.mode ≡ false → IsTold (barred c)
  unfolding barred at_barrier
  barred-told o = rw o (verdict-told (down_among c (looked_at c.coordinator)))

  recovered-told : (ps : List ℕ) → IsTold (recovered c ps)
  unfolding recovered at_recovery
  recovered-told ps = by_test (may_recover c.coordinator ps)
      (λ m. by_test (nat_lt 0 (length (lost_list c)))
      (λ l. rw (m, l) (omega arith))
      (λ l. rw (m, l) refl))
      (λ m. rw m (omega arith))

  repaired-told : (m : Mode) → IsTold (opened_or_idle c (at_repair c.coordinator m).1 (with_coordinator (at_repair c.coordinator m).0 c))
  unfolding at_repair
  repaired-told mode.Running = refl
  repaired-told _ = omega arith

  discarded-told : (m : Mode) (ps : List ℕ) (d : Cluster V A) → IsTold (discarded_or_idle c (at_discard c.coordinator ps m).1 (with_coordinator (at_discard c.coordinator ps m).0 d))
  unfolding at_discard
  discarded-told mode.Failed ps d = omega arith
  discarded-told mode.Done ps d = omega arith
  discarded-told mode.Lost ps d = omega arith
  discarded-told _ ps d = refl

  taken-told : (P : Program V A) → is_over c.coordinator.mode ≡ false → (e : Event) → IsTold (taken_step P c e)
  unfolding repaired discarded
  taken-told P o (event.Work p) = worked_at-told P p (host c p)
  taken-told P o (event.Deliver i) = delivered-told i (slice_get c.flight i)
  taken-told P o (event.Discarded i) = dropped-told i (slice_get c.flight i)
  taken-told P o (event.Crash p n) = crashed-told p n (host c p)
  taken-told P o event.Barrier = barred-told o
  taken-told P o (event.Recover ps) = recovered-told ps
  taken-told P o event.Repair = repaired-told c.coordinator.mode
  taken-told P o event.Discard =
      let ps = down_among c (parties c.coordinator) in
      discarded-told c.coordinator.mode ps (if is_recovery c.coordinator.mode then without_hosts (going_back c.coordinator ps) c else c)

  pub step-told : (P : Program V A) (e : Event) → IsTold (step P c e)
  unfolding step
  step-told P e = by_test (is_over c.coordinator.mode)
      (λ o. rw o (omega arith))
      (λ o. rw o (taken-told P o e))
