-- A graph that is accepted is within the limits: its vertices rise and have 32 bits, and its edges end at them.
use Rattle.std.proofs.Common.{◌≡◌, ◌≤◌, ◌<◌, ◌^◌, ◌+◌, ℕ, zero, suc, List, [], ◌∷◌, Bool, length, take, map, Option, Some, None, refl, sym, ap, ◌∙◌, subst, arith, inl, inr, lit<, lit≤, ltb-true, ltb-false}
use Rattle.std.specs.Prelude.{◌&&◌, nat_lt, slice_get, slice_index_or, IsTrue}
use Rattle.std.specs.List.{AllByRecursion as Each, filter_map, flat_map, list_all, list_any, range_with_len, slice_split}
use Rattle.std.specs.Option.{option_or}
use Rattle.std.specs.Ordering.{nat_cmp}
use Rattle.std.specs.BTreeSet.{insert_key}
use Rattle.std.specs.Char.{is_ascii_digit}
use Rattle.std.specs.Str.Parse.{digits_value}
use Rattle.std.proofs.lemmas.Bool.{and_parts, cases_eq, cases_order}
use Rattle.std.proofs.lemmas.List.{take_all}
use Rattle.std.proofs.lemmas.List.Elements.{recursion_from_All}
use Rattle.gr_base.specs.declared.records.Edge as base
use Rattle.gr_base.specs.Rising.{has}
use Rattle.gr_base.proofs.Rising.{rises-nil}
use Rattle.gr_text.specs.Fields.{fields_of}
use Rattle.gr_text.specs.Lines.{is_line_end, without_return_of}
use Rattle.gr_edges.specs.declared.fault.GraphFault.TheVariants.{TooManyEdges, TooManyVertices}
use Rattle.gr_edges.specs.declared.line.LineFound.{LineFound}
use Rattle.gr_edges.specs.declared.line.LineFound.TheVariants.{Skipped, Edge}
use Rattle.gr_edges.specs.Fields.{number_of, is_comment, is_large, is_bad, of_numbers, of_fields, line_of}
use Rattle.gr_edges.specs.Reading.{max_edges, max_vertices, lines_of, ids_of_line, joined, edges_of, ids_of, vertices_of, fault_of_line, fault_of_size, fault_at, first_fault}
use Rattle.gr_edges.specs.Vertices.{ids, vertex_of}
use Rattle.gr_edges.proofs.Degrees.{ids-made}
use Rattle.gr_edges.proofs.Ends.{ends-stand}
use Rattle.gr_edges.proofs.Ids.{insert-lt, insert-eq, insert-gt, joined-rises}
use Rattle.gr_agree.specs.Accepted.{IsGraph}
use Rattle.gr_lists.proofs.Each.{Each-append}
use Rattle.gr_lists.proofs.Tests.{by_test, by_option}

-- ---- where no line shows a fault

module _ {Y : Type 0} (f : ℕ → Option Y) where
  none-first : (a n : ℕ) → slice_get (filter_map f (range_with_len a n)) 0 ≡ None → (i : ℕ) → a ≤ i → i < a + n → f i ≡ None
  none-first a zero none i le lt = absurd (omega (arith, le, lt))
  none-first a (suc n) none i le lt = by_option (f a)
      (λ e. elim (cases_eq a i) [
        | inl here ↦ sym (ap f here) ∙ e
        | inr later ↦ none-first (a + 1) n (rw e at none) i (omega (arith, le, later)) (omega (arith, lt))
      ])
      (λ y e. absurd (let bad : Some y ≡ None = rw e at none in cc))

option_or-none : {Y : Type 0} (a b : Option Y) → option_or a b ≡ None → b ≡ None
option_or-none (Some y) b e = absurd (let bad : Some y ≡ None = e in cc)
option_or-none None b e = e

-- ---- the limits

abbrev IsFew : Bool → List LineFound → Type 0
IsFew undirected lines = (length (edges_of undirected lines) ≤ max_edges) × (length (ids_of lines) ≤ max_vertices)

size-few : (edge_limit id_limit number : ℕ) (es : List base.Edge) (ns : List ℕ) → fault_of_size edge_limit id_limit number es ns ≡ None
    → (length es ≤ edge_limit) × (length ns ≤ id_limit)
size-few edge_limit id_limit number es ns none = by_test (nat_lt edge_limit (length es))
    (λ above. absurd (let bad : Some (TooManyEdges number) ≡ None = rw above at none in cc))
    (λ few. by_test (nat_lt id_limit (length ns))
    (λ above. absurd (let bad : Some (TooManyVertices number) ≡ None = rw (few, above) at none in cc))
    (λ less. let e = ltb-false edge_limit (length es) few in let v = ltb-false id_limit (length ns) less in (omega (arith, e), omega (arith, v))))

all-few : (undirected : Bool) (lines : List LineFound) → first_fault undirected lines ≡ None → IsFew undirected lines
all-few undirected [] none = (lit≤ tt, lit≤ tt)
all-few undirected (l ∷ ls) none =
    let lines : List LineFound = l ∷ ls in
    let i : ℕ = length ls in
    let at = none-first (fault_at max_edges max_vertices undirected lines) 0 (length lines) none i (omega arith) (omega arith) in
    let size = size-few max_edges max_vertices (i + 1) (edges_of undirected (take (i + 1) lines)) (ids_of (take (i + 1) lines))
    (option_or-none (fault_of_line (i + 1) (slice_index_or lines i Skipped)) _ at) in
    subst (IsFew undirected) (take_all (i + 1) lines (omega arith)) size

-- ---- the ids

abbrev IsSmall : ℕ → Type 0
IsSmall v = v < 2 ^ 32

number-small : (field : List ℕ) → IsSmall (number_of field)
number-small field = by_test (list_all is_ascii_digit field && nat_lt (digits_value 10 field) (2 ^ 32))
    (λ t. rw t (ltb-true (digits_value 10 field) (2 ^ 32) (and_parts (list_all is_ascii_digit field) (nat_lt (digits_value 10 field) (2 ^ 32)) t).1))
    (λ f. rw f (lit< tt))

numbers-small : (fields : List (List ℕ)) → Each IsSmall (ids_of_line (of_numbers fields))
numbers-small [] = tt
numbers-small (a ∷ []) = (number-small a, tt)
numbers-small (a ∷ b ∷ []) = (number-small a, (number-small b, tt))
numbers-small (a ∷ b ∷ c ∷ []) = (number-small a, (number-small b, tt))
numbers-small (a ∷ b ∷ c ∷ d ∷ more) = tt

fields-small : (fields : List (List ℕ)) → Each IsSmall (ids_of_line (of_fields fields))
fields-small fields = by_test (is_comment fields)
    (λ c. rw c tt)
    (λ c. by_test (list_any is_large fields)
    (λ l. rw (c, l) tt)
    (λ l. by_test (list_any is_bad fields) (λ b. rw (c, l, b) tt) (λ b. rw (c, l, b) (numbers-small fields))))

lines-small : (pieces : List (List ℕ)) → Each IsSmall (flat_map ids_of_line (map line_of pieces))
lines-small [] = tt
lines-small (p ∷ ps) =
    Each-append IsSmall (ids_of_line (line_of p)) (flat_map ids_of_line (map line_of ps)) (fields-small (fields_of (without_return_of p))) (lines-small ps)

insert-small : (k : ℕ) (xs : List ℕ) → IsSmall k → Each IsSmall xs → Each IsSmall (insert_key nat_cmp xs k)
insert-small k [] s h = (s, tt)
insert-small k (x ∷ xs) s h = elim (cases_order k x) [
  | inl e ↦ subst (Each IsSmall) (sym (insert-eq k x xs e)) h
  | inr o ↦ elim o [
    | inl lt ↦ subst (Each IsSmall) (sym (insert-lt k x xs lt)) (s, h)
    | inr gt ↦ subst (Each IsSmall) (sym (insert-gt k x xs gt)) (h.0, insert-small k xs s h.1)
  ]
]

joined-small : (xs ns : List ℕ) → Each IsSmall xs → Each IsSmall ns → Each IsSmall (joined xs ns)
joined-small xs [] h k = h
joined-small xs (n ∷ ns) h k = joined-small (insert_key nat_cmp xs n) ns (insert-small n xs k.0 h) k.1

-- a graph that is accepted is within the limits
pub graph-within : (undirected : Bool) (graph : List ℕ) → first_fault undirected (lines_of graph) ≡ None
    → IsGraph (edges_of undirected (lines_of graph)) (ids (vertices_of undirected (lines_of graph)))
graph-within undirected graph none =
    let lines = lines_of graph in
    let es = edges_of undirected lines in
    let ns = ids_of lines in
    let ends = ends-stand undirected lines in
    let few = all-few undirected lines none in
    subst (IsGraph es) (sym (ids-made (vertex_of es) (λ v. refl) ns)) (record {
      rise = joined-rises [] (flat_map ids_of_line lines) (rises-nil (λ (n : ℕ). n));
      ids = joined-small [] (flat_map ids_of_line lines) tt (lines-small (slice_split is_line_end graph));
      sources = recursion_from_All (λ (e : base.Edge). IsTrue (has ns e.src)) es (λ k d lt. (ends k d lt).src);
      targets = recursion_from_All (λ (e : base.Edge). IsTrue (has ns e.dst)) es (λ k d lt. (ends k d lt).dst);
      few_vertices = few.1;
      few_edges = few.0;
    })
