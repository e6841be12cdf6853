-- What a barrier makes of a cluster.
use Rattle.std.proofs.Common.{◌≡◌, ℕ, List, [], ◌∷◌, false, refl, sym, ap, ◌∙◌, Option}
use Rattle.std.specs.Prelude.{IsTrue}
use Rattle.gr_base.specs.Rising.{has}
use Rattle.gr_program.specs.Program.{Program}
use Rattle.gr_log.specs.Log.{Log}
use Rattle.gr_batch.specs.declared.outcome.Outcome.{Outcome}
use Rattle.gr_sched.specs.declared.event.Event.TheVariants as event
use Rattle.gr_view.specs.declared.coordinator.Coordinator.{Coordinator}
use Rattle.gr_view.specs.declared.coordinator.Verdict.{Verdict}
use Rattle.gr_view.specs.declared.coordinator.Verdict.TheVariants as verdict
use Rattle.gr_view.specs.Modes.{is_over, is_failed, is_rebuild}
use Rattle.gr_view.specs.Decisions.{parties, looked_at, unready, verdict_on, at_barrier}
use Rattle.gr_cluster.specs.Tables.{Host, Cluster, log}
use Rattle.gr_cluster.specs.Step.{step, down_among, after_verdict, barred}
use Rattle.gr_cluster.specs.Runs.{is_commit}
use Rattle.gr_agree.specs.Truth.{Truth}
use Rattle.gr_agree.specs.Agree.{Agree}
use Rattle.gr_law_rebuilds.proofs.Restore.Commit.{logs-whole}
use Rattle.gr_lists.proofs.Tests.{by_test, by_option}
use Rattle.gr_core.specs.Decided.{told_of, hosts_after, logs_after}
use Rattle.gr_core.proofs.Network.{step-taken}

module _ {V A : Type 0} (P : Program V A) (c : Cluster V A) (over : is_over c.coordinator.mode ≡ false) where
  abbrev after : List ℕ → Coordinator × Verdict → Cluster V A × Outcome V A
  after ps x = after_verdict c ps x.0 x.1

  abbrev told : List ℕ → Coordinator × Verdict → Cluster V A × Outcome V A
  told ps x = (record c { hosts = hosts_after c.coordinator ps x.1 c.hosts; logs = logs_after c.coordinator ps x.1 c.logs; coordinator = x.0 }, told_of x.1)

  told-verdict : (ps : List ℕ) → told ps (verdict_on c.coordinator ps) ≡ after ps (verdict_on c.coordinator ps)
  told-verdict (p ∷ ps) = refl
  told-verdict [] = by_test (is_failed c.coordinator.mode)
      (λ f. rw f refl)
      (λ f. by_option (unready c.coordinator)
      (λ u. by_test (is_rebuild c.coordinator.mode) (λ r. rw (f, u, r) refl) (λ r. rw (f, u, r) refl))
      (λ p u. rw (f, u) refl))

  told-after : (ps : List ℕ) → told ps (at_barrier c.coordinator ps) ≡ after ps (at_barrier c.coordinator ps)
  unfolding at_barrier
  told-after ps = rw over (told-verdict ps)

  barrier-after : (ps : List ℕ) → ps ≡ down_among c (looked_at c.coordinator) → after ps (at_barrier c.coordinator ps) ≡ step P c event.Barrier
  unfolding barred
  barrier-after ps is = ap (λ qs. after qs (at_barrier c.coordinator qs)) is ∙ sym (step-taken P c event.Barrier over)

  module _ (ps : List ℕ) (x : Coordinator × Verdict) (is : ps ≡ down_among c (looked_at c.coordinator)) (decision : x ≡ at_barrier c.coordinator ps) where
    told-step : told ps x ≡ step P c event.Barrier
    told-step = ap (told ps) decision ∙ (told-after ps ∙ barrier-after ps is)

    pub barrier-step : (hs : List (Option (Host V A))) (ls : List Log) → hs ≡ hosts_after c.coordinator ps x.1 c.hosts → ls ≡ logs_after c.coordinator ps x.1 c.logs
        → (record c { hosts = hs; logs = ls; coordinator = x.0 }, told_of x.1) ≡ step P c event.Barrier
    barrier-step hs ls hosts logs = (λ i. (record c { hosts = hosts i; logs = logs i; coordinator = x.0 }, told_of x.1)) ∙ told-step

    -- where it commits a rebuild no log of a party has a torn record
    pub whole-logs : (t : Truth V) → Agree P t c → (n r d p : ℕ) → x.1 ≡ verdict.Committed n r d → IsTrue (is_rebuild c.coordinator.mode) → IsTrue (has (parties c.coordinator) p) → (log c p).torn ≡ []
    whole-logs t AG n r d p commits rebuilding party =
        logs-whole P t c event.Barrier AG (sym (ap (λ s. is_commit s.1) told-step) ∙ ap (λ v. is_commit {V = V} {A = A} (told_of v)) commits) rebuilding p party
