use Rattle.std.proofs.Common.{◌≡◌, ◌∙◌, ◌<◌, length, sym, arith, slice_index_or}
use Rattle.gr_base.specs.declared.records.Edge.{Edge}
use Rattle.gr_cut.specs.Cut.{place_at_load}
use Rattle.gr_cut.proofs.Rows.{rows-none, rows-more}
use Rattle.gr_cut.proofs.place_edges.cut.Goals as goal

pub loop-i-init : goal.loop-i-init
loop-i-init c = c.in_ok-rows.ensures ∙ rows-none (place_at_load c.args.places c.args.theta c.args.graph.now.edges) c.args.places

pub loop-i-preserved : goal.loop-i-preserved
loop-i-preserved c =
    let es = c.args.graph.now.edges in
    let none : Edge = record { src = 0; dst = 0; weight = 0 } in
    let i = c.loop-i.i in
    let p = c.from.result in
    let lt : i < length es = rw (← c.as_slice-edges.ensures) c.loop-i-test.true in
    let at : place_at_load c.args.places c.args.theta es (slice_index_or es i none) ≡ p = rw (c.as_slice-edges.ensures) at (sym (c.from.ensures ∙ c.place_of-p.ensures.place)) in
    let low : p < c.args.places = omega (arith, c.from.ensures, c.place_of-p.ensures.within) in
    let pushed = c.in_ok-push.ensures.ok in
    let value = c.index_mut-row.ensures.value in
    rw (pushed, value) (rows-more (place_at_load c.args.places c.args.theta es) c.args.places es i p none c.index_mut-row.result.now c.loop-i.rows.items lt at low c.loop-i.invariant)
