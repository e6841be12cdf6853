use Rattle.std.proofs.Common.{◌≡◌, ◌<◌, ◌^◌, List, [], ◌∷◌, ◌++◌, take, get_or, map, sym, ap, ◌∙◌, arith}
use Rattle.std.proofs.lemmas.List.{take_more, map-append}
use Rattle.std.proofs.lemmas.Grind.{get_or_default_zero}
use Rattle.std.proofs.lemmas.List.Elements.{All-push}
use Rattle.gr_base.specs.Degrees.{indegree, outdegree}
use Rattle.gr_edges.specs.declared.graph.VertexInfo.{VertexInfo}
use Rattle.gr_edges.specs.Vertices.{vertex_of}
use Rattle.gr_edges.proofs.Tallies.{all-has}
use Rattle.gr_edges.proofs.tally.tallied_vertices.Goals as goal

pub tally-requires-clause-within : goal.tally-requires-clause-within
tally-requires-clause-within c = λ k d lt. all-has (λ n. n < c.args.room) c.args.ids.now _ c.requires.within (c.requires.ends k d lt).src

pub tally-requires-2-clause-within : goal.tally-requires-2-clause-within
tally-requires-2-clause-within c = λ k d lt. all-has (λ n. n < c.args.room) c.args.ids.now _ c.requires.within (c.requires.ends k d lt).dst

pub loop-id-preserved : goal.loop-id-preserved
loop-id-preserved c =
    let ns = c.args.ids.now in
    let es = c.args.edges.now in
    let i = c.loop-id.id-index in
    let id = get_or ns i 0 in
    let within : id < c.args.room = c.requires.within i 0 c.loop-id-test.true in
    let into : c.index.result.now ≡ indegree es id = c.index.ensures ∙ get_or_default_zero c.in_ok-ins.ins.items id _ (omega (arith, c.in_ok-ins.ensures.len, within)) ∙ c.in_ok-ins.ensures.counts id within in
    let out : c.index-in-loop-id.result.now ≡ outdegree es id = c.index-in-loop-id.ensures ∙ get_or_default_zero c.in_ok-outs.outs.items id _ (omega (arith, c.in_ok-outs.ensures.len, within)) ∙ c.in_ok-outs.ensures.counts id within in
    let v : VertexInfo = record { id = id; indeg = c.index.result.now; outdeg = c.index-in-loop-id.result.now } in
    let vertex : v ≡ vertex_of es id = λ t. record { id = id; indeg = into t; outdeg = out t } in
    record {
      made = c.in_ok-push.ensures.items
          ∙ ap (λ (vs : List VertexInfo). vs ++ v ∷ []) c.loop-id.invariant.made
          ∙ ap (λ (w : VertexInfo). map (vertex_of es) (take i ns) ++ w ∷ []) vertex
          ∙ sym (ap (map (vertex_of es)) (take_more ns i 0 c.loop-id-test.true) ∙ map-append (vertex_of es) (take i ns) (id ∷ []));
      small = rw c.in_ok-push.ensures.items (All-push (λ (x : VertexInfo). x.id < 2 ^ 32) c.loop-id.vertices.items v c.loop-id.invariant.small (let fits = c.type_inv.ids i in omega arith));
    }
