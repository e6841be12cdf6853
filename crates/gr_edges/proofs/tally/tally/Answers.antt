use Rattle.std.proofs.Common.{◌≡◌, ℕ, ◌+◌, ◌<◌, eqb, cond, length, get_or, ap, ◌∙◌, arith, length-set}
use Rattle.std.proofs.lemmas.Grind.{get_or_default_zero}
use Rattle.gr_base.specs.declared.records.Edge.{Edge}
use Rattle.gr_edges.proofs.Degrees.{degree-le}
use Rattle.gr_edges.proofs.Tallies.{tally-after}
use Rattle.gr_edges.proofs.tally.tally.Goals as goal

pub overflow_add-index_mut : goal.overflow_add-index_mut
overflow_add-index_mut c =
    let i = c.loop-edge.edge-index in
    let at = c.end_of-at.result in
    let d : Edge = record { src = 0; dst = 0; weight = 0 } in
    let below : at < length c.loop-edge.counts.items = omega (arith, c.end_of-at.ensures, c.requires.within i d c.loop-edge-test.true, c.loop-edge.invariant.len) in
    let value : c.index_mut.result.now ≡ get_or c.loop-edge.counts.items at 0 = c.index_mut.ensures.value ∙ get_or_default_zero c.loop-edge.counts.items at _ below in
    omega (arith, c.loop-edge.invariant.counts at below, value, degree-le (λ (e : Edge). eqb (cond c.args.at_sources e.src e.dst) at) c.args.edges.now i, c.requires.few)

pub loop-edge-preserved : goal.loop-edge-preserved
loop-edge-preserved c =
    let i = c.loop-edge.edge-index in
    let cs = c.loop-edge.counts.items in
    let at = c.end_of-at.result in
    let d : Edge = record { src = 0; dst = 0; weight = 0 } in
    let below : at < length cs = omega (arith, c.end_of-at.ensures, c.requires.within i d c.loop-edge-test.true, c.loop-edge.invariant.len) in
    let value : c.index_mut.result.now ≡ get_or cs at 0 = c.index_mut.ensures.value ∙ get_or_default_zero cs at _ below in
    record {
      len = length-set cs at (c.index_mut.result.now + 1) ∙ c.loop-edge.invariant.len;
      counts = λ v lt. tally-after (λ (e : Edge). cond c.args.at_sources e.src e.dst) c.args.edges.now i d c.loop-edge-test.true cs at (c.index_mut.result.now + 1) c.end_of-at.ensures below (ap (λ (n : ℕ). n + 1) value) c.loop-edge.invariant.counts v (omega (arith, lt, length-set cs at (c.index_mut.result.now + 1)));
    }
