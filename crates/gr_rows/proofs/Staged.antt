-- What a search among the vertices of copies finds, and what staging a copy or a value leaves.
use Rattle.std.proofs.Common.{◌≡◌, ◌≢◌, ◌∙◌, ◌<◌, ℕ, Bool, true, false, cond, List, [], Some, None, get_or, set, map, length, eqb, ltb, refl, ap, sym, arith}
use Rattle.std.specs.List.{prefix_len}
use Rattle.std.proofs.lemmas.List.{length-map, get_or-map}
use Rattle.gr_base.specs.Rising.{RisesBy}
use Rattle.gr_base.proofs.Rising.{mapped-at, mapped-rises}
use Rattle.gr_program.specs.declared.copy.VertexCopy.{VertexCopy}
use Rattle.gr_rows.proofs.Positions.{positions-map_same}
use Rattle.gr_rows.proofs.Vertices.{prefix_len-map, map-map_same}
use Rattle.gr_rows.specs.Layer.{IsAt, GoesAt, is_due}
use Rattle.gr_rows.specs.Layers.{vertex_of, copy_with_value}
use Rattle.gr_rows.specs.Positions.{positions_from}

module _ {V : Type 0} where
  -- some copy, where a lemma wants a default
  abbrev pub blank : VertexCopy V
  blank = record { vertex = 0; indeg = 0; outdeg = 0; master = 0; holders = []; value = None; due = false }

  pub IsAt-from_vertices : (v at n : ℕ) (xs : List (VertexCopy V)) → at ≡ prefix_len (λ (n : ℕ). ltb n v) (map vertex_of xs) → at < length (map vertex_of xs) → n ≡ get_or (map vertex_of xs) at n → n ≡ v → IsAt v at xs
  IsAt-from_vertices v at n xs e l i s =
      let lt : at < length xs = omega (arith, length-map xs (vertex_of {V = V})) in
      record { place = sym (e ∙ prefix_len-map vertex_of v xs); within = lt; is = λ d. sym (i ∙ get_or-map vertex_of xs at d n lt) ∙ s }

  pub GoesAt-from_vertices : (v at n : ℕ) (xs : List (VertexCopy V)) → at ≡ prefix_len (λ (n : ℕ). ltb n v) (map vertex_of xs) → (at < length (map vertex_of xs) → get_or (map vertex_of xs) at n ≢ v) → GoesAt v at xs
  GoesAt-from_vertices v at n xs e apart = record {
    place = sym (e ∙ prefix_len-map vertex_of v xs);
    apart = λ d l q. apart (omega (arith, length-map xs (vertex_of {V = V}))) (get_or-map vertex_of xs at d n l ∙ q);
  }

  abbrev pub with_value : V → VertexCopy V → VertexCopy V
  with_value x k = record k { value = Some x }

  keeps : (b : Bool) (x : V) (k : VertexCopy V) → vertex_of (cond b (with_value x k) k) ≡ vertex_of k
  keeps true x k = refl
  keeps false x k = refl

  keeps_due : (b : Bool) (x : V) (k : VertexCopy V) → is_due (cond b (with_value x k) k) ≡ is_due k
  keeps_due true x k = refl
  keeps_due false x k = refl

  -- a value set at the position of a vertex
  pub set-with_value : (v at : ℕ) (x : V) (xs : List (VertexCopy V)) (k : VertexCopy V) → RisesBy vertex_of xs → IsAt v at xs → k ≡ get_or xs at k → set xs at (with_value x k) ≡ map (copy_with_value v x) xs
  set-with_value v at x xs k r is e = ap (λ (y : VertexCopy V). set xs at (with_value x y)) e ∙ mapped-at vertex_of (with_value x) v xs at k r is.place is.within (is.is k)

  pub valued-rises : (v : ℕ) (x : V) (xs : List (VertexCopy V)) → RisesBy vertex_of xs → RisesBy vertex_of (map (copy_with_value v x) xs)
  valued-rises v x xs r = mapped-rises vertex_of (copy_with_value v x) (λ k. keeps (eqb k.vertex v) x k) xs r

  pub valued-vertices : (v : ℕ) (x : V) (xs : List (VertexCopy V)) → map vertex_of (map (copy_with_value v x) xs) ≡ map vertex_of xs
  valued-vertices v x xs = map-map_same vertex_of (copy_with_value v x) (λ k. keeps (eqb k.vertex v) x k) xs

  pub valued-positions : (v : ℕ) (x : V) (xs : List (VertexCopy V)) → positions_from is_due 0 (map (copy_with_value v x) xs) ≡ positions_from is_due 0 xs
  valued-positions v x xs = positions-map_same is_due (copy_with_value v x) (λ k. keeps_due (eqb k.vertex v) x k) 0 xs
