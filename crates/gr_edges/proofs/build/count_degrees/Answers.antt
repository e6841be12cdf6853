use Rattle.std.proofs.Common.{◌≡◌, ℕ, ◌+◌, ◌<◌, ◌^◌, List, map, take, get_or, eqb, refl, sym, ap, ◌∙◌, subst, arith}
use Rattle.std.specs.List.{All}
use Rattle.std.proofs.lemmas.List.{take_all}
use Rattle.std.proofs.lemmas.Simd.{map-map}
use Rattle.gr_base.proofs.Rising.{keys-rise}
use Rattle.gr_base.specs.declared.records.Edge.{Edge}
use Rattle.gr_base.specs.Rising.{RisesBy, has}
use Rattle.gr_edges.specs.declared.graph.VertexInfo.{VertexInfo}
use Rattle.gr_edges.specs.Vertices.{id_of, ids, vertex_of, with_source, with_target}
use Rattle.gr_edges.proofs.Degrees.{ids-made, made-rise, each-made, vertices-after, degree-le}
use Rattle.gr_edges.proofs.build.count_degrees.Goals as goal

pub count_source-requires : goal.count_source-requires
count_source-requires c =
    let ns = ids c.args.vertices.now in
    let es = c.args.edges.now in
    let i = c.loop-edge.edge-index in
    let d : Edge = record { src = 0; dst = 0; weight = 0 } in
    let same : ids c.loop-edge.vertices ≡ ns = ap ids c.loop-edge.invariant ∙ ids-made (vertex_of (take i es)) (λ v. refl) ns in
    record {
      rise = subst (RisesBy id_of) (sym c.loop-edge.invariant) (made-rise (vertex_of (take i es)) (λ v. refl) ns (keys-rise id_of c.args.vertices.now c.requires.rise));
      stands = ap (λ (ms : List ℕ). has ms (get_or es i d).src) same ∙ (c.requires.ends i d c.loop-edge-test.true).src;
      room = subst (All (λ (v : VertexInfo). v.outdeg + 1 < 2 ^ 32)) (sym c.loop-edge.invariant) (each-made (vertex_of (take i es)) (λ v. refl) (λ v. v.outdeg + 1 < 2 ^ 32) ns (λ v. omega (arith, degree-le (λ (e : Edge). eqb e.src v) es i)));
    }

pub count_target-requires : goal.count_target-requires
count_target-requires c =
    let ns = ids c.args.vertices.now in
    let es = c.args.edges.now in
    let i = c.loop-edge.edge-index in
    let d : Edge = record { src = 0; dst = 0; weight = 0 } in
    let id = (get_or es i d).src in
    let f : ℕ → VertexInfo = λ v. with_source id (vertex_of (take i es) v) in
    let are : c.count_source.new.vertices ≡ map f ns = c.count_source.ensures ∙ ap (map (with_source id)) c.loop-edge.invariant ∙ map-map (with_source id) (vertex_of (take i es)) ns in
    let same : ids c.count_source.new.vertices ≡ ns = ap ids are ∙ ids-made f (λ v. refl) ns in
    record {
      rise = subst (RisesBy id_of) (sym are) (made-rise f (λ v. refl) ns (keys-rise id_of c.args.vertices.now c.requires.rise));
      stands = ap (λ (ms : List ℕ). has ms (get_or es i d).dst) same ∙ (c.requires.ends i d c.loop-edge-test.true).dst;
      room = subst (All (λ (v : VertexInfo). v.indeg + 1 < 2 ^ 32)) (sym are) (each-made f (λ v. refl) (λ v. v.indeg + 1 < 2 ^ 32) ns (λ v. omega (arith, degree-le (λ (e : Edge). eqb e.dst v) es i)));
    }

pub loop-edge-preserved : goal.loop-edge-preserved
loop-edge-preserved c =
    let ns = ids c.args.vertices.now in
    let es = c.args.edges.now in
    let i = c.loop-edge.edge-index in
    let d : Edge = record { src = 0; dst = 0; weight = 0 } in
    c.count_target.ensures ∙ ap (map (with_target (get_or es i d).dst)) c.count_source.ensures ∙ vertices-after es i d c.loop-edge-test.true ns c.loop-edge.vertices c.loop-edge.invariant

pub returns : goal.returns
returns c = c.loop-edge.invariant ∙ ap (λ (es : List Edge). map (vertex_of es) (ids c.args.vertices.now)) (take_all c.loop-edge.edge-index c.args.edges.now (omega arith))
