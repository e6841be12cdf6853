-- Every event that is no crash and stays in its epoch keeps what is committed and the invariant.
use Rattle.std.proofs.Common.{◌≡◌, ℕ, ◌+◌, List, [], ◌∷◌, true, false, refl, arith, Option, Some, None}
use Rattle.gr_program.specs.Program.{Program}
use Rattle.gr_program.specs.ProgramLaws.{ProgramLaws}
use Rattle.gr_batch.specs.declared.outcome.Outcome.{Outcome}
use Rattle.gr_sched.specs.declared.event.Event.{Event}
use Rattle.gr_sched.specs.declared.event.Event.TheVariants as event
use Rattle.gr_view.specs.Modes.{is_over, is_failed, is_rebuild}
use Rattle.gr_view.specs.Decisions.{committed, commit_unless, looked_at, verdict_on, at_barrier, unready}
use Rattle.gr_cluster.specs.Tables.{Host, Cluster, host}
use Rattle.gr_cluster.specs.Network.{crashed}
use Rattle.gr_cluster.specs.Step.{down_among, after_verdict, barred, step}
use Rattle.gr_cluster.specs.Runs.{is_commit}
use Rattle.gr_agree.specs.Truth.{Truth}
use Rattle.gr_agree.specs.Agree.{Agree}
use Rattle.gr_agree.specs.Laws.{is_crash}
use Rattle.gr_lists.proofs.Tests.{by_test}
use Rattle.gr_law_rounds.specs.Network.{IsKept}
use Rattle.gr_law_rounds.proofs.Network.Kept.{kept-same, deliver-kept, drop-kept}
use Rattle.gr_law_rounds.proofs.Round.Work as round
use Rattle.gr_law_rounds.proofs.Commit.Barrier.{barrier-kept}
use Rattle.gr_law_rebuilds.proofs.Epoch.Unopened.{unopened-kept}
use Rattle.gr_law_rebuilds.proofs.Rebuild.Work as rebuild

module _ {V A : Type 0} (c : Cluster V A) where
  -- a commit raises the epoch
  abbrev RaisesAtCommit : Cluster V A × Outcome V A → Type 0
  RaisesAtCommit r = is_commit r.1 ≡ true → r.0.coordinator.epoch ≡ c.coordinator.epoch + 1

  committed-raised : (committed c.coordinator).epoch ≡ c.coordinator.epoch + 1
  committed-raised = by_test (is_rebuild c.coordinator.mode) (λ y. rw y refl) (λ y. rw y refl)

  unready-raised : (o : Option ℕ) → RaisesAtCommit (after_verdict c [] (commit_unless c.coordinator o).0 (commit_unless c.coordinator o).1)
  unready-raised None y = committed-raised
  unready-raised (Some p) y = absurd (let bad : false ≡ true = y in cc)

  verdict-raised : (ps : List ℕ) → RaisesAtCommit (after_verdict c ps (verdict_on c.coordinator ps).0 (verdict_on c.coordinator ps).1)
  verdict-raised [] = by_test (is_failed c.coordinator.mode)
      (λ f. rw f (λ y. absurd (let bad : false ≡ true = y in cc)))
      (λ f. rw f (unready-raised (unready c.coordinator)))
  verdict-raised (p ∷ ps) = λ y. absurd (let bad : false ≡ true = y in cc)

  barred-raised : is_over c.coordinator.mode ≡ false → RaisesAtCommit (barred c)
  unfolding barred at_barrier
  barred-raised o = rw o (verdict-raised (down_among c (looked_at c.coordinator)))

  pub barrier-raised : (P : Program V A) → RaisesAtCommit (step P c event.Barrier)
  unfolding step
  barrier-raised P = by_test (is_over c.coordinator.mode)
      (λ o. rw o (λ y. absurd (let bad : false ≡ true = y in cc)))
      (λ o. rw o (barred-raised o))

module _ {V A : Type 0} (P : Program V A) (t : Truth V) (c : Cluster V A) (AG : Agree P t c) where
  -- where no place crashes, an order to crash one changes nothing
  crashed-kept : (p n : ℕ) (o : Option (Host V A)) → is_crash (crashed c p n o).1 ≡ false → IsKept P t c (crashed c p n o).0
  unfolding crashed
  crashed-kept p n None none = kept-same P t c AG
  crashed-kept p n (Some h) none = absurd (let bad : true ≡ false = none in cc)

  crash-kept : (p n : ℕ) → is_crash (step P c (event.Crash p n)).1 ≡ false → IsKept P t c (step P c (event.Crash p n)).0
  unfolding step
  crash-kept p n = by_test (is_over c.coordinator.mode)
      (λ o. rw o (λ none. kept-same P t c AG))
      (λ o. rw o (crashed-kept p n (host c p)))

  -- a barrier that stays in the epoch commits nothing
  barrier-inside : (step P c event.Barrier).0.coordinator.epoch ≡ c.coordinator.epoch → IsKept P t c (step P c event.Barrier).0
  barrier-inside same = by_test (is_commit (step P c event.Barrier).1)
      (λ y. absurd (let more = barrier-raised c P y in omega (arith, same, more)))
      (λ none. barrier-kept P t c AG none same)

module _ {V A : Type 0} (P : Program V A) (L : ProgramLaws P) (t : Truth V) (c : Cluster V A) (AG : Agree P t c) where
  -- a work, whether a rebuild is open or not
  work-kept : (p : ℕ) → IsKept P t c (step P c (event.Work p)).0
  work-kept p = by_test (is_rebuild c.coordinator.mode)
      (λ open_rebuild. rebuild.work-kept P t c AG open_rebuild p)
      (λ none. round.work-kept P L t c AG none p)

  pub inside-kept : (e : Event) → is_crash (step P c e).1 ≡ false → (step P c e).0.coordinator.epoch ≡ c.coordinator.epoch → IsKept P t c (step P c e).0
  inside-kept (event.Work p) none same = work-kept p
  inside-kept (event.Deliver i) none same = deliver-kept P t c AG i
  inside-kept (event.Discarded i) none same = drop-kept P t c AG i
  inside-kept (event.Crash p n) none same = crash-kept P t c AG p n none
  inside-kept event.Barrier none same = barrier-inside P t c AG same
  inside-kept (event.Recover ps) none same = unopened-kept P t c AG (event.Recover ps) refl same
  inside-kept event.Repair none same = unopened-kept P t c AG event.Repair refl same
  inside-kept event.Discard none same = unopened-kept P t c AG event.Discard refl same
