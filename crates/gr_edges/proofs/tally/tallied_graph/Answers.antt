use Rattle.std.proofs.Common.{◌≡◌, ℕ, ◌<◌, ◌^◌, List, map, refl, sym, ap, ◌∙◌, subst}
use Rattle.std.specs.List.{All}
use Rattle.gr_base.specs.declared.records.Edge.{Edge}
use Rattle.gr_base.specs.Rising.{RisesBy}
use Rattle.gr_edges.specs.declared.graph.VertexInfo.{VertexInfo}
use Rattle.gr_edges.specs.Vertices.{id_of, ids, vertex_of, HasDegrees, HasEnds}
use Rattle.gr_edges.proofs.Degrees.{ids-made, made-rise, each-made}
use Rattle.gr_edges.proofs.tally.tallied_graph.Goals as goal

pub invariant_of-result : goal.invariant_of-result
invariant_of-result c =
    let ns = c.args.ids.now in
    let f = vertex_of c.args.edges in
    let are : c.from_vec.result ≡ map (vertex_of c.args.edges) ns = c.from_vec.ensures ∙ c.in_ok-vertices.ensures.vertices ∙ ap (λ (es : List Edge). map (vertex_of es) ns) c.as_slice.ensures in
    record {
      rise = subst (RisesBy id_of) (sym are) (made-rise f (λ v. refl) ns c.requires.rise);
      degrees = subst (All (HasDegrees c.args.edges)) (sym are) (each-made f (λ v. refl) (HasDegrees c.args.edges) ns (λ v. record { indeg = refl; outdeg = refl }));
      ends = subst (λ (ms : List ℕ). All (HasEnds ms) c.args.edges) (sym (ap ids are ∙ ids-made f (λ v. refl) ns)) c.requires.ends;
      small = subst (All (λ (v : VertexInfo). v.id < 2 ^ 32)) (sym c.from_vec.ensures) c.in_ok-vertices.ensures.small;
    }
