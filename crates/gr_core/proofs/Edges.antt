-- The edges at a place by their numbers.
use Rattle.std.proofs.Common.{◌≡◌, ◌∙◌, ◌<◌, ◌+◌, ℕ, suc, Bool, eqb, List, [], ◌∷◌, map, length, get_or, slice_index_or, refl, ap, sym, subst, arith, inl, inr}
use Rattle.std.specs.List.{All, filter, enumerate_from}
use Rattle.std.proofs.lemmas.Bool.{cases_Bool}
use Rattle.gr_base.specs.declared.records.Edge.{Edge}
use Rattle.gr_base.specs.declared.records.NumberedEdge.{NumberedEdge}
use Rattle.gr_base.specs.Rising.{RisesBy}
use Rattle.gr_base.proofs.Rising.{filter-rises}
use Rattle.gr_cut.specs.Cut.{numbered, place_at_load, edges_at_load, cut_of}
use Rattle.gr_cut.proofs.Rows.{numbered_edge, rows-count, rows-at}
use Rattle.gr_copies.specs.Ends.{edge_at}
use Rattle.gr_copies.proofs.FirstHolders.{row-bound}
use Rattle.gr_copies.proofs.Selecting.{filter-on, filter-off}
use Rattle.gr_lists.proofs.Maps.{rises-map}
use Rattle.gr_base.proofs.Ranges.{range-rises}
use Rattle.gr_law_rounds.proofs.Load.Ranges.{numbered-numbers}

-- the edge of a number, with it
abbrev pub numbered_at : List Edge → ℕ → NumberedEdge
numbered_at es n = record { number = n; edge = edge_at es n }

abbrev none : Edge
none = record { src = 0; dst = 0; weight = 0 }

module _ (here : NumberedEdge → Bool) where
  again-from : (whole : List Edge) (a : ℕ) (es : List Edge) → ((k : ℕ) → k < length es → edge_at whole (a + k) ≡ get_or es k none)
      → map (numbered_at whole) (map (λ (x : NumberedEdge). x.number) (filter here (map numbered_edge (enumerate_from a es)))) ≡ filter here (map numbered_edge (enumerate_from a es))
  again-from whole a [] are = refl
  again-from whole a (e ∷ es) are =
      let x : NumberedEdge = record { number = a; edge = e } in
      let more = map numbered_edge (enumerate_from (a + 1) es) in
      let start : a + 0 ≡ a = omega arith in
      let first : edge_at whole a ≡ e = sym (ap (edge_at whole) start) ∙ are 0 (omega arith) in
      let rest = again-from whole (a + 1) es (λ k lt. let next : a + 1 + k ≡ a + suc k = omega arith in ap (edge_at whole) next ∙ are (suc k) (omega arith)) in
      elim (cases_Bool (here x)) [
        | inl on ↦ rw (filter-on here x more on) (ap (λ (f : Edge). record { number = a; edge = f } ∷ map (numbered_at whole) (map (λ (x : NumberedEdge). x.number) (filter here more))) first ∙ ap (λ l. x ∷ l) rest)
        | inr off ↦ rw (filter-off here x more off) rest
      ]

  pub again : (es : List Edge) → map (numbered_at es) (map (λ (x : NumberedEdge). x.number) (filter here (numbered es))) ≡ filter here (numbered es)
  again es = again-from es 0 es (λ k lt. let start : 0 + k ≡ k = omega arith in ap (edge_at es) start)

module _ (places theta : ℕ) (es : List Edge) (p : ℕ) where
  -- the numbers of the edges at a place
  abbrev pub numbers : List ℕ
  numbers = map (λ (x : NumberedEdge). x.number) (edges_at_load places theta es p)

  pub edges-again : map (numbered_at es) numbers ≡ edges_at_load places theta es p
  edges-again = again (λ a. eqb (place_at_load places theta es a.edge) p) es

  pub edges-rise : RisesBy (λ (x : NumberedEdge). x.number) (edges_at_load places theta es p)
  edges-rise = filter-rises (λ (x : NumberedEdge). x.number) (λ a. eqb (place_at_load places theta es a.edge) p) (numbered es) all-rise
    where
      all-rise : RisesBy (λ (x : NumberedEdge). x.number) (numbered es)
      all-rise = rises-map (λ (x : NumberedEdge). x.number) (λ q. q) (numbered es) (subst (RisesBy (λ q. q)) (sym (numbered-numbers es)) (range-rises 0 (length es)))

  pub numbers-bound : All (λ n. n < length es) numbers
  numbers-bound = row-bound (place_at_load places theta es) p es 0 (length es) es (omega arith)

  pub cut-count : length (cut_of places theta es) ≡ places
  cut-count = rows-count (place_at_load places theta es) places es

  pub cut-at : p < places → slice_index_or (cut_of places theta es) p [] ≡ numbers
  cut-at lt = rows-at (place_at_load places theta es) places es p [] lt
