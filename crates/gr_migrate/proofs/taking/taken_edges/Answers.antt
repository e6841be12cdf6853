use Rattle.std.proofs.Common.{◌∙◌, ◌++◌, ◌∷◌, [], List, ap, sym, subst, map, take, eq-eqb, ne_eqb}
use Rattle.std.specs.List.{filter}
use Rattle.std.proofs.lemmas.List.{take_all}
use Rattle.std.proofs.lemmas.Result.{IfOk-weaker}
use Rattle.gr_base.specs.declared.records.NumberedEdge.{NumberedEdge}
use Rattle.gr_log.specs.Directory.{with_items}
use Rattle.gr_rules.specs.Taken.{Ends, goes_to}
use Rattle.gr_migrate.specs.Asks.{taken_among}
use Rattle.gr_migrate.specs.Ends.{KnowsMasters, place_after}
use Rattle.gr_migrate.proofs.Fronts.{front-more}
use Rattle.gr_migrate.proofs.Picked.{map-filter-more, filter-same}
use Rattle.gr_migrate.proofs.RetiredParts.{taken-retired}
use Rattle.gr_migrate.proofs.taking.taken_edges.Goals as goal
use Rattle.gr_migrate.proofs.taking.taken_edges.Goals.{then-place_after-me+in_ok-push, else-place_after-me}

pub place_after-requires-clause-src : goal.place_after-requires-clause-src
place_after-requires-clause-src c =
    let known : KnowsMasters c.edge-item.result = subst KnowsMasters (sym c.edge-item.is) (c.requires.masters c.loop-edge.edge-index c.edge-item.result c.loop-edge-test.true) in known.src

pub place_after-requires-clause-dst : goal.place_after-requires-clause-dst
place_after-requires-clause-dst c =
    let known : KnowsMasters c.edge-item.result = subst KnowsMasters (sym c.edge-item.is) (c.requires.masters c.loop-edge.edge-index c.edge-item.result c.loop-edge-test.true) in known.dst

pub loop-edge-preserved : goal.loop-edge-preserved
loop-edge-preserved c =
    let xs = c.args.retired.now in
    let i = c.loop-edge.edge-index in
    let x = c.edge-item.result in
    let arc = λ (y : Ends). y.arc in
    let test = goes_to c.args.view.now c.args.me in
    let more = ap (λ l. map arc (filter test l)) (front-more xs i x c.loop-edge-test.true c.edge-item.is) in
    elim c.if-place_after-me.branch [
      | then-place_after-me+in_ok-push w ↦
          let on = eq-eqb (place_after c.args.view.now x) c.args.me (sym c.place_after.ensures ∙ w.if-place_after-me.true) in
          w.taken-is ∙ (w.in_ok-push.ensures.ok ∙ (ap (λ (a : NumberedEdge). c.loop-edge.taken ++ a ∷ []) (ap arc c.edge.view_is) ∙ (ap (λ (l : List NumberedEdge). l ++ x.arc ∷ []) c.loop-edge.invariant
          ∙ (sym (map-filter-more test arc (take i xs) x on) ∙ sym more))))
      | else-place_after-me w ↦
          let off = ne_eqb (place_after c.args.view.now x) c.args.me (λ e. w.if-place_after-me.false (c.place_after.ensures ∙ e)) in
          w.taken-is ∙ (c.loop-edge.invariant ∙ (ap (map arc) (sym (filter-same test (take i xs) x off)) ∙ sym more))
    ]

pub returns-clause-edges : goal.returns-clause-edges
unfolding taken_among
returns-clause-edges c =
    let number = λ (a : NumberedEdge). a.number in
    let xs = c.args.retired.now in
    let all = c.as_slice.ensures ∙ (c.loop-edge.invariant ∙ ap (λ l. map (λ (y : Ends). y.arc) (filter (goes_to c.args.view.now c.args.me) l)) (take_all c.loop-edge.edge-index xs c.loop-edge-test.false)) in
    IfOk-weaker c.last_of_each.result _ _ (λ es e. e ∙ ap (λ (l : List NumberedEdge). with_items number l []) all) c.last_of_each.ensures.last

pub returns-clause-of_logs : goal.returns-clause-of_logs
returns-clause-of_logs c =
    let w = c.args.view.now in
    IfOk-weaker c.last_of_each.result _ _ (λ es e logs same. e ∙ (ap (taken_among w c.args.me) same ∙ taken-retired w logs c.args.me)) (returns-clause-edges c)
