use Rattle.std.proofs.Common.{◌≡◌, ◌∙◌, ◌<◌, ◌+◌, map, length, slice_index, slice_index_or, IsTrue, sym, ap, arith}
use Rattle.std.proofs.lemmas.List.{take_all, get_or-map, length_push}
use Rattle.std.proofs.lemmas.List.Elements.{All-push}
use Rattle.gr_program.specs.Program.{total}
use Rattle.gr_edges.specs.declared.graph.VertexInfo.{VertexInfo}
use Rattle.gr_edges.specs.Vertices.{ids, id_of}
use Rattle.gr_uncut.specs.Round.{brought, applied}
use Rattle.gr_uncut.proofs.Sums.{map-push}
use Rattle.gr_uncut.proofs.gather.new_values.Goals as goal

pub loop-position-preserved : goal.loop-position-preserved
loop-position-preserved g c =
    let p = g.P.VertexProgram.program_of c.args.program.now in
    let vertices = c.args.vertices.now in
    let vs = ids vertices in
    let active = c.args.active.now in
    let i = c.loop-position.position-index in
    let k = slice_index active i in
    let none : VertexInfo = record { id = 0; indeg = 0; outdeg = 0 } in
    let v = (slice_index_or vertices k none).id in
    let in_vertices : k < length vertices = c.requires.active i 0 c.loop-position-test.true in
    let within : k < length c.args.values.now = omega (arith, in_vertices, c.requires.long) in
    let id : v ≡ slice_index vs k = sym (get_or-map id_of vertices k none 0 in_vertices) in
    record {
      long = ap length c.in_ok-push.ensures.ok ∙ length_push c.loop-position.new c.apply.result ∙ ap (λ n. n + 1) c.loop-position.invariant.long;
      values = λ x reads.
          let value_is = c.index-values-at.is ∙ reads k c.index-values-at.result within in
          let sum_is = c.gathered-sum.ensures.sum x reads ∙ ap (λ l. total p (map (brought p x) l)) c.row.ensures in
          c.in_ok-push.ensures.ok
          ∙ map-push (applied p vs c.args.index.now x) active c.loop-position.new i c.apply.result 0 c.loop-position-test.true (c.loop-position.invariant.values x reads)
          (c.apply.ensures.value
          ∙ ap (λ n. p.apply n c.index-values-at.result c.gathered-sum.result) id
          ∙ ap (λ y. p.apply (slice_index vs k) y c.gathered-sum.result) value_is
          ∙ ap (p.apply (slice_index vs k) (x k)) sum_is);
      kept = rw c.in_ok-push.ensures.ok (All-push (λ x. IsTrue (p.is_value x)) c.loop-position.new c.apply.result c.loop-position.invariant.kept c.apply.ensures.kept);
    }

pub returns-clause-values : goal.returns-clause-values
returns-clause-values g c = λ x reads.
    let p = g.P.VertexProgram.program_of c.args.program.now in
    c.loop-position.invariant.values x reads ∙ ap (map (applied p (ids c.args.vertices.now) c.args.index.now x)) (take_all c.loop-position.position-index c.args.active.now c.loop-position-test.false)
