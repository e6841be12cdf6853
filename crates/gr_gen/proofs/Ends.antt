-- The ends of generated edges stand among the vertices.
use Rattle.std.proofs.Common.{◌≡◌, ℕ, ◌+◌, ◌*◌, ◌%◌, ◌<◌, ◌≤◌, min, Bool, eqb, cond, length, sym, ap, subst, arith, inl, inr}
use Rattle.std.specs.List.{All, range_with_len}
use Rattle.std.proofs.lemmas.Bool.{cases_Bool}
use Rattle.std.proofs.lemmas.List.FromFn.{get_or-map-range_with_len, length-map-range_with_len}
use Rattle.std.proofs.Math.Nat.{mod-lt}
use Rattle.gr_base.proofs.Ranges.{has-range}
use Rattle.gr_edges.specs.Vertices.{HasEnds}
use Rattle.gr_gen.specs.Draws.{draw}
use Rattle.gr_gen.specs.Generated.{target_count, vertex_count, vertices_below, edge_of, edges_of}

-- there is a vertex to end at, and none of them is beyond the vertices
pub target_count-bounds : (vertices i : ℕ) → 0 < vertices → (0 < target_count vertices i) × (target_count vertices i ≤ vertices)
target_count-bounds vertices i some = elim (cases_Bool (eqb (i % 4) 3)) [
  | inl fourth ↦ let e : target_count vertices i ≡ min vertices 8 = ap (λ (b : Bool). cond b (min vertices 8) vertices) fourth in (omega (arith, e), omega (arith, e))
  | inr other ↦ let e : target_count vertices i ≡ vertices = ap (λ (b : Bool). cond b (min vertices 8) vertices) other in (omega (arith, e), omega (arith, e))
]

edge_of-ends : (seed vertices i : ℕ) → 0 < vertices → HasEnds (range_with_len 0 vertices) (edge_of seed vertices i)
edge_of-ends seed vertices i some =
    let targets = target_count-bounds vertices i some in
    record {
      src = has-range 0 vertices (edge_of seed vertices i).src (omega arith) (omega (arith, mod-lt (draw seed (2 * i)) some));
      dst = has-range 0 vertices (edge_of seed vertices i).dst (omega arith) (omega (arith, mod-lt (draw seed (2 * i + 1)) targets.0, targets.1));
    }

pub edges_of-ends : (seed size : ℕ) → All (HasEnds (vertices_below size)) (edges_of seed size)
edges_of-ends seed size = λ k d lt.
    let lk : k < size = omega (arith, length-map-range_with_len (edge_of seed (vertex_count size)) 0 size) in
    subst (HasEnds (vertices_below size)) (sym (get_or-map-range_with_len (edge_of seed (vertex_count size)) 0 size k k d lk (omega arith))) (edge_of-ends seed (vertex_count size) k (omega arith))

pub length-edges_of : (seed size : ℕ) → length (edges_of seed size) ≡ size
length-edges_of seed size = length-map-range_with_len (edge_of seed (vertex_count size)) 0 size
