use Rattle.std.proofs.Common.{◌≡◌, ℕ, ◌<◌, ◌^◌, List, [], map, sym, ap, ◌∙◌, subst, arith}
use Rattle.std.specs.List.{All}
use Rattle.std.proofs.lemmas.Grind.{common_steps}
use Rattle.std.proofs.lemmas.List.{take_all}
use Rattle.std.proofs.lemmas.List.Elements.{All-push}
use Rattle.gr_edges.specs.declared.graph.VertexInfo.{VertexInfo}
use Rattle.gr_edges.specs.Vertices.{vertex_of, HasEnds}
use Rattle.gr_edges.proofs.Degrees.{ids-unconnected, unconnected-rise, unconnected-again}
use Rattle.gr_edges.proofs.build.hinted_graph.Goals as goal

pub loop-id-preserved : goal.loop-id-preserved
loop-id-preserved c = record {
  made = grind (arith, common_steps);
  small = rw c.in_ok-push.ensures.items (All-push (λ (v : VertexInfo). v.id < 2 ^ 32) c.loop-id.vertices.items c.unconnected.result c.loop-id.invariant.small c.unconnected.ensures.small);
}

pub with_degrees-requires : goal.with_degrees-requires
with_degrees-requires c =
    let vs = c.loop-id.vertices.items in
    let ns = c.args.ids.now in
    let are : vs ≡ map (vertex_of []) ns = c.loop-id.invariant.made ∙ ap (map (vertex_of [])) (take_all c.loop-id.id-index ns (omega arith)) in
    record {
      rise = unconnected-rise vs ns are c.requires.rise;
      none = unconnected-again vs ns are;
      ends = subst (λ (ms : List ℕ). All (HasEnds ms) c.args.edges) (sym (ids-unconnected vs ns are)) c.requires.ends;
      small = c.loop-id.invariant.small;
      few = c.requires.few;
    }

pub returns : goal.returns
returns c =
    let vs = c.loop-id.vertices.items in
    let ns = c.args.ids.now in
    let are : vs ≡ map (vertex_of []) ns = c.loop-id.invariant.made ∙ ap (map (vertex_of [])) (take_all c.loop-id.id-index ns (omega arith)) in
    record { edges = c.with_degrees.ensures.edges; vertices = c.with_degrees.ensures.vertices ∙ ap (map (vertex_of c.args.edges)) (ids-unconnected vs ns are) }
