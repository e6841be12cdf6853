-- An event that neither commits nor crashes a place leaves the committed state, and which places are live and up.
use Rattle.std.proofs.Common.{◌≡◌, ℕ, true, false, ◌==◌, ◌&&◌, refl, sym, ap, ◌∙◌, Option, Some, None, eqb-true, eq-eqb}
use Rattle.std.specs.Prelude.{is_some, option_map}
use Rattle.std.proofs.lemmas.Bool.{and_left, and_parts}
use Rattle.gr_base.specs.Rising.{has}
use Rattle.gr_program.specs.Program.{Program}
use Rattle.gr_program.specs.ProgramLaws.{ProgramLaws}
use Rattle.gr_batch.specs.declared.outcome.Outcome.{Outcome}
use Rattle.gr_sched.specs.declared.event.Event.{Event}
use Rattle.gr_sched.specs.declared.event.Event.TheVariants as event
use Rattle.gr_view.specs.Modes.{is_over, is_rebuild, is_recovery}
use Rattle.gr_cluster.specs.Tables.{Host, Cluster, host, is_up, effective}
use Rattle.gr_cluster.specs.Network.{crashed}
use Rattle.gr_cluster.specs.Step.{step}
use Rattle.gr_cluster.specs.Runs.{is_commit}
use Rattle.gr_agree.specs.Truth.{Truth}
use Rattle.gr_agree.specs.Agree.{Agree}
use Rattle.gr_agree.specs.Accepted.{NamesPlaces}
use Rattle.gr_agree.specs.Laws.{is_crash}
use Rattle.gr_lists.proofs.Tests.{by_test}
use Rattle.gr_law_rounds.specs.Network.{IsKept}
use Rattle.gr_law_rounds.proofs.Network.Kept.{deliver-kept, drop-kept}
use Rattle.gr_law_rounds.proofs.Round.Work as round
use Rattle.gr_law_rounds.proofs.Commit.Barrier.{barrier-kept}
use Rattle.gr_law_rebuilds.specs.Epoch.{IsLater, IsNewEpoch}
use Rattle.gr_law_rebuilds.proofs.Epoch.Crashes.{barrier-later}
use Rattle.gr_law_rebuilds.proofs.Epoch.Discard.{discard-kept, discard-later}
use Rattle.gr_law_rebuilds.proofs.Epoch.Recovery.{recovery-later}
use Rattle.gr_law_rebuilds.proofs.Epoch.Repair.{repair-kept}
use Rattle.gr_law_rebuilds.proofs.Epoch.Unopened.{unopened-kept}
use Rattle.gr_law_rebuilds.proofs.Rebuild.Work as rebuild
use Rattle.gr_law_runs.proofs.Ends.Serving.{serves}

some-of : {X Y : Type 0} (f : X → Y) (o : Option X) → is_some (option_map f o) ≡ is_some o
some-of f None = refl
some-of f (Some x) = refl

module _ {V A : Type 0} (P : Program V A) (t : Truth V) (c : Cluster V A) (AG : Agree P t c) where
  pub record Quiet (d : Cluster V A) : Type 0 where
    pub agrees : Agree P t d
    pub serves : (p : ℕ) → serves d p ≡ serves c p

  -- the same places are up where the effective rows are the same
  up-same : (d : Cluster V A) (p : ℕ) → option_map (effective d.coordinator.commits) (host d p) ≡ option_map (effective c.coordinator.commits) (host c p) → is_up d p ≡ is_up c p
  up-same d p e = sym (some-of (effective d.coordinator.commits) (host d p)) ∙ (ap is_some e ∙ some-of (effective c.coordinator.commits) (host c p))

  same-quiet : Quiet c
  same-quiet = record { agrees = AG; serves = λ p. refl }

  kept-quiet : (d : Cluster V A) → IsKept P t c d → Quiet d
  kept-quiet d K = record {
    agrees = K.1;
    serves = λ p. let live = (K.0).live in let up = up-same d p ((K.0).rows p) in λ i. has (live i) p && up i;
  }

  -- the live places stay live
  live-quiet : (d : Cluster V A) → d.coordinator.live ≡ c.coordinator.live → IsLater P t c d → Quiet d
  live-quiet d live K = record {
    agrees = K.1;
    serves = λ p. by_test (has d.coordinator.live p)
        (λ l. let up = up-same d p ((K.0).rows p l) in λ i. has (live i) p && up i)
        (λ l. and_left (has d.coordinator.live p) (is_up d p) l ∙ sym (and_left (has c.coordinator.live p) (is_up c p) (ap (λ ps. has ps p) (sym live) ∙ l)));
  }

  -- those of them stay live that are up
  failed-quiet : (d : Cluster V A) → ((p : ℕ) → has d.coordinator.live p ≡ serves c p) → IsLater P t c d → Quiet d
  failed-quiet d live K = record {
    agrees = K.1;
    serves = λ p. by_test (has d.coordinator.live p)
        (λ l. let s = sym (live p) ∙ l in let up = up-same d p ((K.0).rows p l) ∙ (and_parts (has c.coordinator.live p) (is_up c p) s).1 in
        (λ i. l i && up i) ∙ sym s)
        (λ l. and_left (has d.coordinator.live p) (is_up d p) l ∙ (sym l ∙ live p));
  }

  by_epoch : (d : Cluster V A) → (d.coordinator.epoch ≡ c.coordinator.epoch → Quiet d) → (IsNewEpoch c d → Quiet d) → Quiet d
  by_epoch d stays opens = by_test (d.coordinator.epoch == c.coordinator.epoch)
      (λ y. stays (eqb-true d.coordinator.epoch c.coordinator.epoch y))
      (λ n. opens (λ q. let bad : true ≡ false = sym (eq-eqb d.coordinator.epoch c.coordinator.epoch q) ∙ n in cc))

  -- ---- crashes

  -- an order to crash a place that is down changes nothing
  abbrev IsIdle : Cluster V A × Outcome V A → Type 0
  IsIdle r = is_crash r.1 ≡ false → Quiet r.0

  crashed-idle : (p n : ℕ) (o : Option (Host V A)) → IsIdle (crashed c p n o)
  unfolding crashed
  crashed-idle p n None = λ none. same-quiet
  crashed-idle p n (Some h) = λ none. absurd (let bad : true ≡ false = none in cc)

  pub crash-idle : (p n : ℕ) → IsIdle (step P c (event.Crash p n))
  unfolding step
  crash-idle p n = by_test (is_over c.coordinator.mode)
      (λ o. rw o (λ none. same-quiet))
      (λ o. rw o (crashed-idle p n (host c p)))

  -- ---- every other event that does not commit

  work-quiet : ProgramLaws P → (p : ℕ) → Quiet (step P c (event.Work p)).0
  work-quiet L p = kept-quiet (step P c (event.Work p)).0 (by_test (is_rebuild c.coordinator.mode)
      (λ r. rebuild.work-kept P t c AG r p)
      (λ none. round.work-kept P L t c AG none p))

  -- of an order to crash a place it has to be known that none crashed
  pub quiet : ProgramLaws P → (e : Event) → NamesPlaces e → ((p n : ℕ) → e ≡ event.Crash p n → is_crash (step P c e).1 ≡ false) → is_commit (step P c e).1 ≡ false → Quiet (step P c e).0
  quiet L (event.Work p) names none calm = work-quiet L p
  quiet L (event.Deliver i) names none calm = kept-quiet (step P c (event.Deliver i)).0 (deliver-kept P t c AG i)
  quiet L (event.Discarded i) names none calm = kept-quiet (step P c (event.Discarded i)).0 (drop-kept P t c AG i)
  quiet L (event.Crash p n) names none calm = crash-idle p n (none p n refl)
  quiet L event.Barrier names none calm = by_epoch (step P c event.Barrier).0
      (λ e. kept-quiet (step P c event.Barrier).0 (barrier-kept P t c AG calm e))
      (λ new. let k = barrier-later P t c AG calm new in failed-quiet (step P c event.Barrier).0 k.0 k.1)
  quiet L (event.Recover ps) names none calm = by_epoch (step P c (event.Recover ps)).0
      (λ e. kept-quiet (step P c (event.Recover ps)).0 (unopened-kept P t c AG (event.Recover ps) refl e))
      (λ new. let k = recovery-later P t c AG ps names new in live-quiet (step P c (event.Recover ps)).0 k.0 k.1)
  quiet L event.Repair names none calm = by_epoch (step P c event.Repair).0
      (λ e. kept-quiet (step P c event.Repair).0 (unopened-kept P t c AG event.Repair refl e))
      (λ new. kept-quiet (step P c event.Repair).0 (repair-kept P t c AG new))
  quiet L event.Discard names none calm = by_test (is_recovery c.coordinator.mode)
      (λ y. let k = discard-later P t c AG y in live-quiet (step P c event.Discard).0 k.0 k.1)
      (λ other. by_epoch (step P c event.Discard).0
      (λ e. kept-quiet (step P c event.Discard).0 (unopened-kept P t c AG event.Discard refl e))
      (λ new. kept-quiet (step P c event.Discard).0 (discard-kept P t c AG other new)))
