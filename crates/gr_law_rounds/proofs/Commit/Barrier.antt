-- A barrier that neither commits nor finds a crash changes nothing.
use Rattle.std.proofs.Common.{◌≡◌, ℕ, List, [], ◌∷◌, true, false, arith}
use Rattle.gr_program.specs.Program.{Program}
use Rattle.gr_batch.specs.declared.outcome.Outcome.{Outcome}
use Rattle.gr_sched.specs.declared.event.Event.TheVariants as event
use Rattle.gr_view.specs.Modes.{is_over, is_failed}
use Rattle.gr_view.specs.Decisions.{looked_at, unready, verdict_on, at_barrier}
use Rattle.gr_cluster.specs.Tables.{Cluster}
use Rattle.gr_cluster.specs.Step.{down_among, after_verdict, barred, step}
use Rattle.gr_cluster.specs.Runs.{is_commit}
use Rattle.gr_agree.specs.Truth.{Truth}
use Rattle.gr_agree.specs.Agree.{Agree}
use Rattle.gr_law_rounds.specs.Network.{IsKept}
use Rattle.gr_law_rounds.proofs.Network.Kept.{kept-same}
use Rattle.gr_lists.proofs.Tests.{by_test, by_option}

module _ {V A : Type 0} (P : Program V A) (t : Truth V) (c : Cluster V A) (AG : Agree P t c) where
  -- a decision by which the cluster stays in its epoch, and which commits nothing
  abbrev Decides : Cluster V A × Outcome V A → Type 0
  Decides r = is_commit r.1 ≡ false → r.0.coordinator.epoch ≡ c.coordinator.epoch → IsKept P t c r.0

  verdict-kept : (ps : List ℕ) → Decides (after_verdict c ps (verdict_on c.coordinator ps).0 (verdict_on c.coordinator ps).1)
  verdict-kept [] = by_test (is_failed c.coordinator.mode)
      (λ f. rw f (λ n e. kept-same P t c AG))
      (λ f. rw f (by_option (unready c.coordinator)
      (λ u. rw u (λ n e. absurd (let bad : true ≡ false = n in cc)))
      (λ p u. rw u (λ n e. kept-same P t c AG))))
  verdict-kept (p ∷ ps) = λ n e. absurd (omega (arith, e))

  barred-kept : is_over c.coordinator.mode ≡ false → Decides (barred c)
  unfolding barred at_barrier
  barred-kept o = rw o (verdict-kept (down_among c (looked_at c.coordinator)))

  pub barrier-kept : Decides (step P c event.Barrier)
  unfolding step
  barrier-kept = by_test (is_over c.coordinator.mode)
      (λ o. rw o (λ n e. kept-same P t c AG))
      (λ o. rw o (barred-kept o))
