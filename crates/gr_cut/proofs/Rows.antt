-- The numbers of the edges at each place, edge by edge.
use Rattle.std.proofs.Common.{◌≡◌, ◌∙◌, ◌<◌, ◌+◌, ℕ, Bool, eqb, cond, List, [], ◌∷◌, ◌++◌, length, take, get_or, set, map, replicate, ap, sym, arith, inl, inr}
use Rattle.std.specs.List.{filter, enumerate_from}
use Rattle.std.proofs.lemmas.Bool.{cases_eq, eq-eqb, ne_eqb}
use Rattle.std.proofs.lemmas.List.{append-nil, take_more, map-append, get_or-map, get_or-set_same, get_or-set_other, length-set, length-map, length-replicate, get_or-replicate, same_lists, length-take-le}
use Rattle.std.proofs.lemmas.List.Elements.{filter-append}
use Rattle.std.proofs.lemmas.List.FromFn.{length-range_with_len, get_or-range_with_len}
use Rattle.gr_base.specs.declared.records.Edge.{Edge}
use Rattle.gr_base.specs.declared.records.NumberedEdge.{NumberedEdge}
use Rattle.gr_base.specs.Places.{below}
use Rattle.gr_cut.specs.Cut.{numbered}

abbrev pub numbered_edge : ℕ × Edge → NumberedEdge
numbered_edge x = record { number = x.0; edge = x.1 }

enumerate-push : (a : ℕ) (es : List Edge) (e : Edge) → enumerate_from a (es ++ e ∷ []) ≡ enumerate_from a es ++ (a + length es, e) ∷ []
enumerate-push a [] e = let n : a ≡ a + 0 = omega arith in ap (λ (m : ℕ). (m, e) ∷ []) n
enumerate-push a (x ∷ es) e =
    let n : (a + 1) + length es ≡ a + length (x ∷ es) = omega arith in
    ap (λ l. (a, x) ∷ l) (enumerate-push (a + 1) es e) ∙ ap (λ (m : ℕ). (a, x) ∷ (enumerate_from (a + 1) es ++ (m, e) ∷ [])) n

numbered-push : (es : List Edge) (e : Edge) → numbered (es ++ e ∷ []) ≡ numbered es ++ numbered_edge (length es, e) ∷ []
numbered-push es e =
    let n : 0 + length es ≡ length es = omega arith in
    ap (map numbered_edge) (enumerate-push 0 es e)
    ∙ map-append numbered_edge (enumerate_from 0 es) ((0 + length es, e) ∷ [])
    ∙ ap (λ (m : ℕ). numbered es ++ numbered_edge (m, e) ∷ []) n

module _ (place : Edge → ℕ) where
  -- the numbers of the edges at a place
  abbrev pub row : List Edge → ℕ → List ℕ
  row es p = map (λ (a : NumberedEdge). a.number) (filter (λ (a : NumberedEdge). eqb (place a.edge) p) (numbered es))

  row-push : (es : List Edge) (e : Edge) (p : ℕ) → row (es ++ e ∷ []) p ≡ row es p ++ map (λ (a : NumberedEdge). a.number) (cond (eqb (place e) p) (numbered_edge (length es, e) ∷ []) [])
  row-push es e p =
      ap (λ l. map (λ (a : NumberedEdge). a.number) (filter (λ (a : NumberedEdge). eqb (place a.edge) p) l)) (numbered-push es e)
      ∙ ap (map (λ (a : NumberedEdge). a.number)) (filter-append (λ (a : NumberedEdge). eqb (place a.edge) p) (numbered es) (numbered_edge (length es, e) ∷ []))
      ∙ map-append (λ (a : NumberedEdge). a.number) (filter (λ (a : NumberedEdge). eqb (place a.edge) p) (numbered es)) (cond (eqb (place e) p) (numbered_edge (length es, e) ∷ []) [])

  row-here : (es : List Edge) (e : Edge) (p : ℕ) → place e ≡ p → row (es ++ e ∷ []) p ≡ row es p ++ length es ∷ []
  row-here es e p at = let on = eq-eqb (place e) p at in row-push es e p ∙ ap (λ (b : Bool). row es p ++ map (λ (a : NumberedEdge). a.number) (cond b (numbered_edge (length es, e) ∷ []) [])) on

  row-there : (es : List Edge) (e : Edge) (p : ℕ) → (place e ≡ p → ⊥) → row (es ++ e ∷ []) p ≡ row es p
  row-there es e p apart = let off = ne_eqb (place e) p apart in row-push es e p ∙ ap (λ (b : Bool). row es p ++ map (λ (a : NumberedEdge). a.number) (cond b (numbered_edge (length es, e) ∷ []) [])) off ∙ append-nil (row es p)

  module _ (n : ℕ) where
    -- the rows of all places
    abbrev pub rows : List Edge → List (List ℕ)
    rows es = map (row es) (below n)

    pub rows-count : (es : List Edge) → length (rows es) ≡ n
    rows-count es = length-map (below n) (row es) ∙ length-range_with_len 0 n

    pub rows-at : (es : List Edge) (p : ℕ) (d : List ℕ) → p < n → get_or (rows es) p d ≡ row es p
    rows-at es p d lt =
        get_or-map (row es) (below n) p 0 d (rw (length-range_with_len 0 n) lt)
        ∙ ap (row es) (get_or-range_with_len 0 n p 0 lt ∙ (let z : 0 + p ≡ p = omega arith in z))

    rows-push : (es : List Edge) (e : Edge) (p : ℕ) → place e ≡ p → p < n → set (rows es) p (row es p ++ length es ∷ []) ≡ rows (es ++ e ∷ [])
    rows-push es e p at low = same_lists _ _ (length-set (rows es) p (row es p ++ length es ∷ []) ∙ rows-count es ∙ sym (rows-count (es ++ e ∷ []))) (λ k d lt.
        let lt_n : k < n = rw (length-set (rows es) p (row es p ++ length es ∷ []), rows-count es) at lt in
        let here : p < length (rows es) = rw (rows-count es) low in
        elim (cases_eq k p) [
          | inl same ↦
              ap (λ j. get_or (set (rows es) p (row es p ++ length es ∷ [])) j d) same
              ∙ get_or-set_same (rows es) p (row es p ++ length es ∷ []) d here
              ∙ sym (row-here es e p at)
              ∙ sym (rows-at (es ++ e ∷ []) p d low)
              ∙ sym (ap (λ j. get_or (rows (es ++ e ∷ [])) j d) same)
          | inr apart ↦
              get_or-set_other (rows es) p k (row es p ++ length es ∷ []) d apart
              ∙ rows-at es k d lt_n
              ∙ sym (row-there es e k (λ q. apart (sym q ∙ at)))
              ∙ sym (rows-at (es ++ e ∷ []) k d lt_n)
        ])

    -- one edge more
    pub rows-more : (es : List Edge) (i p : ℕ) (d : Edge) (e : List ℕ) (was : List (List ℕ)) → i < length es → place (get_or es i d) ≡ p → p < n → was ≡ rows (take i es)
        → set was p (get_or was p e ++ i ∷ []) ≡ rows (take (i + 1) es)
    rows-more es i p d e was lt at low is =
        let len : length (take i es) ≡ i = length-take-le i es (omega arith) in
        ap (λ l. set l p (get_or l p e ++ i ∷ [])) is
        ∙ ap (λ l. set (rows (take i es)) p (l ++ i ∷ [])) (rows-at (take i es) p e low)
        ∙ ap (λ (m : ℕ). set (rows (take i es)) p (row (take i es) p ++ m ∷ [])) (sym len)
        ∙ rows-push (take i es) (get_or es i d) p at low
        ∙ ap rows (sym (take_more es i d lt))

    -- with no edge each row is empty
    pub rows-none : replicate n [] ≡ rows []
    rows-none = same_lists (replicate n []) (rows []) (length-replicate {A = List ℕ} n [] ∙ sym (rows-count [])) (λ k d lt.
        let low : k < n = omega (arith, lt, length-replicate {A = List ℕ} n []) in
        get_or-replicate n k [] d low ∙ sym (rows-at [] k d low))
