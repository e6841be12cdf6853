-- A canonical event spends of the epochs that are left.
use Rattle.std.proofs.Common.{◌≡◌, ℕ, false, sym, subst, Some, slice_get}
use Rattle.gr_program.specs.Program.{Program}
use Rattle.gr_program.specs.ProgramLaws.{ProgramLaws}
use Rattle.gr_sched.specs.declared.event.Event.{Event}
use Rattle.gr_sched.specs.declared.event.Event.TheVariants as event
use Rattle.gr_view.specs.Modes.{is_over, is_rebuild}
use Rattle.gr_cluster.specs.Tables.{Cluster, host}
use Rattle.gr_cluster.specs.Step.{step}
use Rattle.gr_cluster.specs.Canonical.{next_canonical}
use Rattle.gr_agree.specs.Truth.{Truth}
use Rattle.gr_agree.specs.Agree.{Agree}
use Rattle.gr_lists.proofs.Tests.{by_test}
use Rattle.gr_law_rounds.proofs.Network.Kept.{deliver-kept}
use Rattle.gr_law_rounds.proofs.Round.Work as round
use Rattle.gr_law_rebuilds.proofs.Rebuild.Work as rebuild
use Rattle.gr_law_runs.proofs.Left.Canonical.{by-canonical, canonical-goes_on}
use Rattle.gr_law_rounds.proofs.Network.Unruled.{IsUnruled, worked_at-unruled, delivered-unruled}
use Rattle.gr_law_runs.proofs.Left.Less.{step-taken}
use Rattle.gr_law_runs.proofs.Bounds.Epochs.{Spends, kept-spends}
use Rattle.gr_law_runs.proofs.Bounds.Barriers.{barrier-spends}
use Rattle.gr_law_runs.proofs.Bounds.Recoveries.{recovery-spends}

module _ {V A : Type 0} (P : Program V A) (L : ProgramLaws P) (t : Truth V) (c : Cluster V A) (AG : Agree P t c) where
  work-spends : is_over c.coordinator.mode ≡ false → (p : ℕ) → Spends c (step P c (event.Work p)).0
  work-spends o p = kept-spends c P t (step P c (event.Work p)).0
      (by_test (is_rebuild c.coordinator.mode)
      (λ r. rebuild.work-kept P t c AG r p)
      (λ none. round.work-kept P L t c AG none p))
      (subst (λ r. IsUnruled c.coordinator r.0.coordinator) (sym (step-taken P c o (event.Work p))) (worked_at-unruled P c p (host c p)))

  deliver-spends : is_over c.coordinator.mode ≡ false → (i : ℕ) → Spends c (step P c (event.Deliver i)).0
  deliver-spends o i = kept-spends c P t (step P c (event.Deliver i)).0 (deliver-kept P t c AG i)
      (subst (λ r. IsUnruled c.coordinator r.0.coordinator) (sym (step-taken P c o (event.Deliver i))) (delivered-unruled P c i (slice_get c.flight i)))

  pub canonical-spends : (e : Event) → next_canonical c ≡ Some e → Spends c (step P c e).0
  canonical-spends e is = let o = canonical-goes_on c e is in by-canonical c (λ e. Spends c (step P c e).0) e is (record {
    deliver = λ b bs f. deliver-spends o 0;
    work = λ none p h lt at acts. work-spends o p;
    recover = λ f seen. recovery-spends P t c AG f seen _;
    barrier = λ Q B. barrier-spends P t c AG;
  })
