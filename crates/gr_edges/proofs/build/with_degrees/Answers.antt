use Rattle.std.proofs.Common.{◌≡◌, ℕ, ◌<◌, ◌^◌, List, map, length, take, ◌++◌, refl, sym, ap, ◌∙◌, subst, arith}
use Rattle.std.specs.List.{All}
use Rattle.std.proofs.lemmas.List.Elements.{All-map}
use Rattle.gr_base.specs.declared.records.Edge.{Edge}
use Rattle.gr_base.specs.Rising.{RisesBy}
use Rattle.gr_base.proofs.Rising.{keys-rise}
use Rattle.gr_edges.specs.declared.graph.VertexInfo.{VertexInfo}
use Rattle.gr_edges.specs.Vertices.{id_of, ids, vertex_of, HasDegrees, HasEnds}
use Rattle.gr_edges.proofs.Degrees.{ids-made, made-rise, each-made, written-over}
use Rattle.gr_edges.proofs.build.with_degrees.Goals as goal

-- what stands in the list after the count
counted : (new rest all : List VertexInfo) (n : ℕ) → all ≡ take n (new ++ rest) → n ≡ length new → (old vs : List VertexInfo) (es edges : List Edge) → old ≡ vs → es ≡ edges → new ≡ map (vertex_of es) (ids old) → all ≡ map (vertex_of edges) (ids vs)
counted new rest all n is n_is old vs es edges same_vs same_es found =
    written-over new rest all n is n_is ∙ found ∙ (λ t. map (vertex_of (same_es t)) (ids (same_vs t)))

pub count_degrees-requires : goal.count_degrees-requires
count_degrees-requires c = rw (c.as_mut_slice.ensures.value, c.as_slice.ensures) (record { rise = c.requires.rise; none = c.requires.none; ends = c.requires.ends; few = c.requires.few })

pub invariant_of-result : goal.invariant_of-result
invariant_of-result c =
    let ns = ids c.args.vertices.items in
    let are : c.from_vec.result ≡ map (vertex_of c.args.edges) ns = counted c.count_degrees.new.vertices _ c.from_vec.result c.args.vertices.len c.from_vec.ensures (omega (arith, c.as_mut_slice.ensures.len, c.count_degrees.auto.vertices)) c.as_mut_slice.result.now c.args.vertices.items c.as_slice.result.now c.args.edges c.as_mut_slice.ensures.value c.as_slice.ensures c.count_degrees.ensures in
    record {
      rise = subst (RisesBy id_of) (sym are) (made-rise (vertex_of c.args.edges) (λ v. refl) ns (keys-rise id_of c.args.vertices.items c.requires.rise));
      degrees = subst (All (HasDegrees c.args.edges)) (sym are) (each-made (vertex_of c.args.edges) (λ v. refl) (HasDegrees c.args.edges) ns (λ v. record { indeg = refl; outdeg = refl }));
      ends = subst (λ (ms : List ℕ). All (HasEnds ms) c.args.edges) (sym (ap ids are ∙ ids-made (vertex_of c.args.edges) (λ v. refl) ns)) c.requires.ends;
      small = subst (All (λ (v : VertexInfo). v.id < 2 ^ 32)) (sym are) (All-map (λ v. v.id < 2 ^ 32) (vertex_of c.args.edges) ns (All-map (λ n. n < 2 ^ 32) id_of c.args.vertices.items c.requires.small));
    }

pub returns : goal.returns
returns c = record {
  edges = refl;
  vertices = counted c.count_degrees.new.vertices _ c.from_vec.result c.args.vertices.len c.from_vec.ensures (omega (arith, c.as_mut_slice.ensures.len, c.count_degrees.auto.vertices)) c.as_mut_slice.result.now c.args.vertices.items c.as_slice.result.now c.args.edges c.as_mut_slice.ensures.value c.as_slice.ensures c.count_degrees.ensures;
}
