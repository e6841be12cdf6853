use Rattle.std.proofs.Common.{◌≡◌, ◌∙◌, ◌∷◌, [], ap, sym, subst, map, take, eq-eqb, ne_eqb, rules}
use Rattle.std.specs.List.{filter}
use Rattle.std.proofs.lemmas.List.{take_all}
use Rattle.gr_base.specs.Rising.{RisesBy}
use Rattle.gr_base.proofs.Rising.{rises-nil}
use Rattle.gr_log.specs.Directory.{Entry}
use Rattle.gr_rules.specs.Taken.{Ends}
use Rattle.gr_migrate.specs.Asks.{ends_taken, is_missing_from, with_missing, asked_among}
use Rattle.gr_migrate.specs.Ends.{KnowsMaster, KnowsMasters, place_after}
use Rattle.gr_migrate.proofs.Fronts.{front-more}
use Rattle.gr_migrate.proofs.Keyed.{rising-rises}
use Rattle.gr_migrate.proofs.RetiredParts.{asked_so_far, asked-more, asked-same, asked-retired}
use Rattle.gr_migrate.proofs.ask.asks.Goals as goal
use Rattle.gr_migrate.proofs.ask.asks.Goals.{then-place_after-me+in_ok-add_asked+in_ok-add_asked-2, else-place_after-me}

pub place_after-requires-clause-src : goal.place_after-requires-clause-src
place_after-requires-clause-src g c =
    let known : KnowsMasters c.edge-item.result = subst KnowsMasters (sym c.edge-item.is) (c.requires.masters c.loop-edge.edge-index c.edge-item.result c.loop-edge-test.true) in known.src

pub place_after-requires-clause-dst : goal.place_after-requires-clause-dst
place_after-requires-clause-dst g c =
    let known : KnowsMasters c.edge-item.result = subst KnowsMasters (sym c.edge-item.is) (c.requires.masters c.loop-edge.edge-index c.edge-item.result c.loop-edge-test.true) in known.dst

pub add_asked-requires : goal.add_asked-requires
add_asked-requires g c =
    let known : KnowsMasters c.edge-item.result = subst KnowsMasters (sym c.edge-item.is) (c.requires.masters c.loop-edge.edge-index c.edge-item.result c.loop-edge-test.true) in
    subst (λ (y : Ends). KnowsMaster y.src) (sym c.edge.view_is) known.src

pub add_asked-requires-then-place_after-me : goal.add_asked-requires-then-place_after-me
add_asked-requires-then-place_after-me g c =
    let known : KnowsMasters c.edge-item.result = subst KnowsMasters (sym c.edge-item.is) (c.requires.masters c.loop-edge.edge-index c.edge-item.result c.loop-edge-test.true) in
    subst (λ (y : Ends). KnowsMaster y.dst) (sym c.edge.view_is) known.dst

pub loop-edge-preserved : goal.loop-edge-preserved
loop-edge-preserved g c =
    let w = c.args.view.now in
    let rows = c.args.rows.now.stable in
    let q = c.args.to in
    let i = c.loop-edge.edge-index in
    let x = c.edge-item.result in
    let xs = take i c.args.retired.now in
    let more = ap (asked_so_far w c.args.me rows q) (front-more c.args.retired.now i x c.loop-edge-test.true c.edge-item.is) in
    elim c.if-place_after-me.branch [
      | then-place_after-me+in_ok-add_asked+in_ok-add_asked-2 k ↦
          let on = eq-eqb (place_after w x) c.args.me (sym c.place_after.ensures ∙ k.if-place_after-me.true) in
          let src = k.in_ok-add_asked.ensures ∙ (λ j. with_missing w rows q (c.loop-edge.invariant j) ((c.edge.view_is j).src ∷ [])) in
          ap (λ s. s.keys) k.asked-is ∙ (k.in_ok-add_asked-2.ensures ∙ ((λ j. with_missing w rows q (src j) ((c.edge.view_is j).dst ∷ []))
          ∙ (sym (asked-more w c.args.me rows q xs x on) ∙ sym more)))
      | else-place_after-me k ↦
          let off = ne_eqb (place_after w x) c.args.me (λ e. k.if-place_after-me.false (c.place_after.ensures ∙ e)) in
          ap (λ s. s.keys) k.asked-is ∙ (c.loop-edge.invariant ∙ (sym (asked-same w c.args.me rows q xs x off) ∙ sym more))
    ]

pub returns-clause-asked : goal.returns-clause-asked
unfolding asked_among
returns-clause-asked g c =
    let xs = c.args.retired.now in
    let got : c.in_ok-collect.field-0.items ≡ c.loop-edge.asked.keys = search rules in
    c.from_vec.ensures ∙ (got ∙ (c.loop-edge.invariant ∙ ap (asked_so_far c.args.view.now c.args.me c.args.rows.now.stable c.args.to) (take_all c.loop-edge.edge-index xs c.loop-edge-test.false)))

pub returns-clause-body : goal.returns-clause-body
returns-clause-body g c = λ logs same.
    let w = c.args.view.now in
    let rows = c.args.rows.now.stable in
    returns-clause-asked g c ∙ (ap (asked_among w c.args.me rows c.args.to) same ∙ asked-retired w c.args.me rows c.args.to logs)

pub returns-clause-rise : goal.returns-clause-rise
unfolding asked_among
returns-clause-rise g c =
    let w = c.args.view.now in
    let missing = filter (is_missing_from w c.args.rows.now.stable c.args.to) (ends_taken w c.args.me c.args.retired.now) in
    subst (RisesBy (λ v. v)) (sym (returns-clause-asked g c)) (rising-rises (map (λ (e : Entry). e.vertex) missing) [] (rises-nil (λ v. v)))
