-- Every event leaves a cluster that agrees with a committed state of the same graph, but for the works and the barriers of a rebuild.
use Rattle.std.proofs.Common.{◌≡◌, ℕ, List, [], ◌∷◌, true, false, ◌==◌, refl, sym, ◌∙◌, subst, Option, Some, None, eqb-true, eq-eqb}
use Rattle.std.specs.Prelude.{IsTrue}
use Rattle.gr_program.specs.Program.{Program}
use Rattle.gr_program.specs.ProgramLaws.{ProgramLaws}
use Rattle.gr_batch.specs.declared.outcome.Outcome.{Outcome}
use Rattle.gr_sched.specs.declared.event.Event.{Event}
use Rattle.gr_sched.specs.declared.event.Event.TheVariants as event
use Rattle.gr_view.specs.declared.coordinator.Mode.{Mode}
use Rattle.gr_view.specs.declared.coordinator.Mode.TheVariants as mode
use Rattle.gr_view.specs.Modes.{is_over, is_failed, is_rebuild, is_recovery, is_round}
use Rattle.gr_view.specs.Decisions.{looked_at, verdict_on, at_barrier}
use Rattle.gr_cluster.specs.Tables.{Host, Cluster, host}
use Rattle.gr_cluster.specs.Network.{crashed}
use Rattle.gr_cluster.specs.Step.{down_among, after_verdict, barred, step}
use Rattle.gr_cluster.specs.Runs.{is_commit}
use Rattle.gr_agree.specs.Truth.{Truth, edge_list}
use Rattle.gr_agree.specs.TrueRound.{next}
use Rattle.gr_agree.specs.Agree.{Agree}
use Rattle.gr_agree.specs.Accepted.{NamesPlaces}
use Rattle.gr_agree.specs.Laws.{is_crash}
use Rattle.gr_lists.proofs.Tests.{by_test}
use Rattle.gr_law_rounds.proofs.Network.Kept.{deliver-kept, drop-kept}
use Rattle.gr_law_rounds.proofs.Round.Work.{work-kept}
use Rattle.gr_law_rounds.proofs.Commit.Barrier.{barrier-kept}
use Rattle.gr_law_rounds.proofs.Commit.Commit.{round-commits}
use Rattle.gr_law_rebuilds.proofs.Loss.Loss.{loss-kept}
use Rattle.gr_law_rebuilds.specs.Epoch.{IsNewEpoch}
use Rattle.gr_law_rebuilds.proofs.Epoch.Crashes.{barrier-later}
use Rattle.gr_law_rebuilds.proofs.Epoch.Discard.{discard-kept, discard-later}
use Rattle.gr_law_rebuilds.proofs.Epoch.Recovery.{recovery-later}
use Rattle.gr_law_rebuilds.proofs.Epoch.Repair.{repair-kept}
use Rattle.gr_law_rebuilds.proofs.Epoch.Unopened.{unopened-kept}
use Rattle.gr_law_runs.specs.Events.{AgreesIn, drives}

-- until the run is over, and while nothing has failed and no rebuild is open, a round is
going-round : (m : Mode) → is_over m ≡ false → is_failed m ≡ false → is_rebuild m ≡ false → is_round m ≡ true
going-round mode.Running o f r = refl
going-round mode.Failed o f r = absurd (let bad : true ≡ false = f in cc)
going-round mode.Recovering o f r = absurd (let bad : true ≡ false = r in cc)
going-round mode.Repairing o f r = absurd (let bad : true ≡ false = r in cc)
going-round mode.Done o f r = absurd (let bad : true ≡ false = o in cc)
going-round mode.Lost o f r = absurd (let bad : true ≡ false = o in cc)

module _ {V A : Type 0} (P : Program V A) (c : Cluster V A) (no_rebuild : is_rebuild c.coordinator.mode ≡ false) where
  -- a barrier that commits, commits a round
  abbrev CommitsRound : Outcome V A → Type 0
  CommitsRound o = is_commit o ≡ true → is_round c.coordinator.mode ≡ true

  verdict-round : is_over c.coordinator.mode ≡ false → (ps : List ℕ) → CommitsRound (after_verdict c ps (verdict_on c.coordinator ps).0 (verdict_on c.coordinator ps).1).1
  verdict-round o [] = by_test (is_failed c.coordinator.mode)
      (λ f. rw f (λ y. absurd (let bad : false ≡ true = y in cc)))
      (λ f y. going-round c.coordinator.mode o f no_rebuild)
  verdict-round o (p ∷ ps) = λ y. absurd (let bad : false ≡ true = y in cc)

  barred-round : is_over c.coordinator.mode ≡ false → CommitsRound (barred c).1
  unfolding barred at_barrier
  barred-round o = rw o (verdict-round o (down_among c (looked_at c.coordinator)))

  barrier-round : CommitsRound (step P c event.Barrier).1
  unfolding step
  barrier-round = by_test (is_over c.coordinator.mode)
      (λ o. rw o (λ y. absurd (let bad : false ≡ true = y in cc)))
      (λ o. rw o (barred-round o))

module _ {V A : Type 0} (P : Program V A) (c : Cluster V A) (p n : ℕ) where
  -- a crash of a place that is down changes nothing
  abbrev IsIdle : Cluster V A × Outcome V A → Type 0
  IsIdle r = is_crash r.1 ≡ false → c ≡ r.0

  crashed-idle : (o : Option (Host V A)) → IsIdle (crashed c p n o)
  unfolding crashed
  crashed-idle None = λ none. refl
  crashed-idle (Some h) = λ none. absurd (let bad : true ≡ false = none in cc)

  crash-idle : IsIdle (step P c (event.Crash p n))
  unfolding step
  crash-idle = by_test (is_over c.coordinator.mode)
      (λ o. rw o (λ none. refl))
      (λ o. rw o (crashed-idle (host c p)))

module _ {V A : Type 0} (P : Program V A) (L : ProgramLaws P) (t : Truth V) (c : Cluster V A) (AG : Agree P t c) where
  -- an event either stays in its epoch or opens a new one
  by_epoch : (d : Cluster V A) → (d.coordinator.epoch ≡ c.coordinator.epoch → Agree P t d) → (IsNewEpoch c d → Agree P t d) → Agree P t d
  by_epoch d stays opens = by_test (d.coordinator.epoch == c.coordinator.epoch)
      (λ y. stays (eqb-true d.coordinator.epoch c.coordinator.epoch y))
      (λ n. opens (λ q. let bad : true ≡ false = sym (eq-eqb d.coordinator.epoch c.coordinator.epoch q) ∙ n in cc))

  same-state : (d : Cluster V A) → Agree P t d → AgreesIn P (edge_list t) t.vertices d
  same-state d AG' = record { state = t; agrees = AG'; edges = refl; vertices = refl }

  crash-agrees : (p n : ℕ) → Agree P t (step P c (event.Crash p n)).0
  crash-agrees p n = by_test (is_crash (step P c (event.Crash p n)).1)
      (λ y. (loss-kept P t c p n AG y).1)
      (λ none. subst (Agree P t) (crash-idle P c p n none) AG)

  barrier-agrees : is_rebuild c.coordinator.mode ≡ false → AgreesIn P (edge_list t) t.vertices (step P c event.Barrier).0
  barrier-agrees no_rebuild = by_test (is_commit (step P c event.Barrier).1)
      (λ y. record { state = next P t; agrees = round-commits P L t c event.Barrier AG y (barrier-round P c no_rebuild y); edges = refl; vertices = refl })
      (λ none. same-state (step P c event.Barrier).0 (by_epoch (step P c event.Barrier).0
      (λ e. (barrier-kept P t c AG none e).1)
      (λ new. (barrier-later P t c AG none new).1.1)))

  discard-agrees : Agree P t (step P c event.Discard).0
  discard-agrees = by_test (is_recovery c.coordinator.mode)
      (λ y. (discard-later P t c AG y).1.1)
      (λ other. by_epoch (step P c event.Discard).0
      (λ e. (unopened-kept P t c AG event.Discard refl e).1)
      (λ new. (discard-kept P t c AG other new).1))

  -- an event that brings a rebuild on comes where none is open
  no-rebuild : (e : Event) → drives e ≡ true → (IsTrue (is_rebuild c.coordinator.mode) → drives e ≡ false) → is_rebuild c.coordinator.mode ≡ false
  no-rebuild e on off = by_test (is_rebuild c.coordinator.mode) (λ y. absurd (let bad : true ≡ false = sym on ∙ off y in cc)) (λ n. n)

  pub event-agrees : (e : Event) → NamesPlaces e → (IsTrue (is_rebuild c.coordinator.mode) → drives e ≡ false) → AgreesIn P (edge_list t) t.vertices (step P c e).0
  event-agrees (event.Work p) names off = same-state _ (work-kept P L t c AG (no-rebuild (event.Work p) refl off) p).1
  event-agrees (event.Deliver i) names off = same-state _ (deliver-kept P t c AG i).1
  event-agrees (event.Discarded i) names off = same-state _ (drop-kept P t c AG i).1
  event-agrees (event.Crash p n) names off = same-state _ (crash-agrees p n)
  event-agrees event.Barrier names off = barrier-agrees (no-rebuild event.Barrier refl off)
  event-agrees (event.Recover ps) names off = same-state _ (by_epoch (step P c (event.Recover ps)).0
      (λ e. (unopened-kept P t c AG (event.Recover ps) refl e).1)
      (λ new. (recovery-later P t c AG ps names new).1.1))
  event-agrees event.Repair names off = same-state _ (by_epoch (step P c event.Repair).0
      (λ e. (unopened-kept P t c AG event.Repair refl e).1)
      (λ new. (repair-kept P t c AG new).1))
  event-agrees event.Discard names off = same-state _ discard-agrees
