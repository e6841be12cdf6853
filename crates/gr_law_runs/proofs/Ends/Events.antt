-- Every event leaves a cluster that agrees with a committed state of the same graph.
use Rattle.std.proofs.Common.{◌≡◌, true, false, ◌==◌, refl, sym, ◌∙◌, eqb-true, eq-eqb}
use Rattle.gr_program.specs.Program.{Program}
use Rattle.gr_program.specs.ProgramLaws.{ProgramLaws}
use Rattle.gr_sched.specs.declared.event.Event.{Event}
use Rattle.gr_sched.specs.declared.event.Event.TheVariants as event
use Rattle.gr_view.specs.Modes.{is_rebuild}
use Rattle.gr_cluster.specs.Tables.{Cluster, view_of, wanted_in}
use Rattle.gr_cluster.specs.GraphIn.{graph_of, graph_in}
use Rattle.gr_cluster.specs.Step.{step}
use Rattle.gr_cluster.specs.Runs.{is_commit}
use Rattle.gr_agree.specs.Truth.{Truth, edge_list}
use Rattle.gr_agree.specs.Rebuilt.{rebuilt}
use Rattle.gr_agree.specs.Agree.{Agree, Invariant}
use Rattle.gr_agree.specs.Accepted.{NamesPlaces}
use Rattle.gr_lists.proofs.Tests.{by_test}
use Rattle.gr_law_rounds.proofs.Logs.Logged.{graph-in}
use Rattle.gr_law_rounds.proofs.Commit.Barrier.{barrier-kept}
use Rattle.gr_law_rebuilds.proofs.Epoch.Crashes.{barrier-later}
use Rattle.gr_law_rebuilds.proofs.Rebuild.Work.{work-kept}
use Rattle.gr_law_rebuilds.proofs.Restore.Commit.{rebuild-commits}
use Rattle.gr_law_runs.specs.Events.{AgreesIn, drives}
use Rattle.gr_law_runs.proofs.Events.Events.{event-agrees}

module _ {V A : Type 0} (P : Program V A) (L : ProgramLaws P) (t : Truth V) (c : Cluster V A) (AG : Agree P t c) where
  abbrev AgreesAfter : Event → Type 0
  AgreesAfter e = AgreesIn P (edge_list t) t.vertices (step P c e).0

  -- a barrier of a rebuild commits it, finds a failure, or changes nothing
  rebuild-barrier : is_rebuild c.coordinator.mode ≡ true → AgreesAfter event.Barrier
  rebuild-barrier rebuilding = by_test (is_commit (step P c event.Barrier).1)
      (λ y. record { state = rebuilt P (view_of P c) (wanted_in P c) t; agrees = rebuild-commits P t c event.Barrier AG y rebuilding; edges = refl; vertices = refl })
      (λ none. record {
        state = t;
        agrees = by_test ((step P c event.Barrier).0.coordinator.epoch == c.coordinator.epoch)
            (λ y. (barrier-kept P t c AG none (eqb-true _ _ y)).1)
            (λ n. (barrier-later P t c AG none (λ q. let bad : true ≡ false = sym (eq-eqb (step P c event.Barrier).0.coordinator.epoch c.coordinator.epoch q) ∙ n in cc)).1.1);
        edges = refl;
        vertices = refl;
      })

  in-rebuild : (e : Event) → NamesPlaces e → is_rebuild c.coordinator.mode ≡ true → drives e ≡ true → AgreesAfter e
  in-rebuild (event.Work p) names r d = record { state = t; agrees = (work-kept P t c AG r p).1; edges = refl; vertices = refl }
  in-rebuild event.Barrier names r d = rebuild-barrier r
  in-rebuild _ names r d = absurd (let bad : false ≡ true = d in cc)

  pub agrees-after : (e : Event) → NamesPlaces e → AgreesAfter e
  agrees-after e names = by_test (drives e)
      (λ d. by_test (is_rebuild c.coordinator.mode)
      (λ r. in-rebuild e names r d)
      (λ no. event-agrees P L t c AG e names (λ y. absurd (let bad : true ≡ false = sym y ∙ no in cc))))
      (λ no. event-agrees P L t c AG e names (λ y. no))

  -- the logs say the same graph before and after
  pub invariant-after : (e : Event) → NamesPlaces e → Invariant P (step P c e).0 × (graph_in (step P c e).0 ≡ graph_in c)
  invariant-after e names =
      let k = agrees-after e names in
      ((k.state, k.agrees), graph-in P k.state (step P c e).0 k.agrees ∙ ((λ i. graph_of (k.edges i) (k.vertices i)) ∙ sym (graph-in P t c AG)))
