-- Two layers that differ at few positions: what staging and copying leave of that.
use Rattle.std.proofs.Common.{◌≡◌, ◌≢◌, ◌∙◌, ◌<◌, ◌≤◌, ◌+◌, ℕ, zero, suc, Bool, true, false, List, [], ◌∷◌, ◌++◌, ◌||◌, get_or, set, map, drop, length, eqb, refl, ap, sym, arith, inl, inr}
use Rattle.std.proofs.lemmas.Bool.{cases_Bool, cases_eq, cond-true, cond-false, eq-eqb, ne_eqb}
use Rattle.std.proofs.lemmas.List.{length-map, get_or-map, get_or-set_same, get_or-set_other, get_or_default, drop_more}
use Rattle.std.proofs.lemmas.List.Folds.{list_any-append}
use Rattle.gr_base.specs.Rising.{has}
use Rattle.gr_program.specs.declared.copy.VertexCopy.{VertexCopy}
use Rattle.gr_rows.proofs.Due.{with_mark}
use Rattle.gr_rows.proofs.Vertices.{map-map_same}
use Rattle.gr_rows.specs.Changes.{AgreeBut, SameBut}
use Rattle.gr_rows.specs.Layer.{is_due}
use Rattle.gr_rows.specs.Layers.{vertex_of, copy_with_mark}
use Rattle.gr_rows.specs.Positions.{positions_from}

or-none : (a b : Bool) → (a || b) ≡ false → (a ≡ false) × (b ≡ false)
or-none true b e = cc
or-none false b e = (refl, e)

has-append : (ns ms : List ℕ) (i : ℕ) → has (ns ++ ms) i ≡ false → (has ns i ≡ false) × (has ms i ≡ false)
has-append ns ms i e = or-none (has ns i) (has ms i) (sym (list_any-append (λ (x : ℕ). eqb x i) ns ms) ∙ e)

-- a number that is not the first of a list
has-cons : (n : ℕ) (ns : List ℕ) (i : ℕ) → has (n ∷ ns) i ≡ false → (i ≢ n) × (has ns i ≡ false)
has-cons n ns i e = let q = or-none (eqb n i) (has ns i) e in (λ s. let t : eqb n i ≡ true = eq-eqb n i (sym s) in cc, q.1)

-- an element whose position is not among those that pass
no-position : {X : Type 0} (p : X → Bool) (k j i : ℕ) (xs : List X) (d : X) → j ≡ k + i → i < length xs → has (positions_from p k xs) j ≡ false → p (get_or xs i d) ≡ false
no-position p k j i [] d e l h = absurd (omega arith)
no-position p k j i (x ∷ xs) d e l h = elim (cases_Bool (p x)) [
  | inl on ↦
      let q = has-cons k (positions_from p (k + 1) xs) j (sym (ap (λ ns. has ns j) (cond-true (p x) (k ∷ positions_from p (k + 1) xs) (positions_from p (k + 1) xs) on)) ∙ h) in
      past i e l q.0 q.1 (λ m le a b. no-position p (k + 1) j m xs d a le b)
  | inr off ↦ at i e l off (sym (ap (λ ns. has ns j) (cond-false (p x) (k ∷ positions_from p (k + 1) xs) (positions_from p (k + 1) xs) off)) ∙ h) (λ m le a b. no-position p (k + 1) j m xs d a le b)
]
  where
    past : (i : ℕ) → j ≡ k + i → i < suc (length xs) → j ≢ k → has (positions_from p (k + 1) xs) j ≡ false → ((m : ℕ) → m < length xs → j ≡ k + 1 + m → has (positions_from p (k + 1) xs) j ≡ false → p (get_or xs m d) ≡ false) → p (get_or (x ∷ xs) i d) ≡ false
    past zero e l ne h ih = absurd (ne (omega arith))
    past (suc i) e l ne h ih = ih i (omega arith) (omega arith) h

    at : (i : ℕ) → j ≡ k + i → i < suc (length xs) → p x ≡ false → has (positions_from p (k + 1) xs) j ≡ false → ((m : ℕ) → m < length xs → j ≡ k + 1 + m → has (positions_from p (k + 1) xs) j ≡ false → p (get_or xs m d) ≡ false) → p (get_or (x ∷ xs) i d) ≡ false
    at zero e l off h ih = off
    at (suc i) e l off h ih = ih i (omega arith) (omega arith) h

module _ {V : Type 0} where
  pub agree-length : (ns : List ℕ) (xs ys : List (VertexCopy V)) → AgreeBut ns xs ys → length xs ≡ length ys
  agree-length ns xs ys a = omega (arith, ap length a.vertices, length-map xs (vertex_of {V = V}), length-map ys (vertex_of {V = V}))

  -- a change of the marks
  pub agree-marks : (due : List ℕ) (ns : List ℕ) (xs ys : List (VertexCopy V)) → AgreeBut ns xs ys → AgreeBut ((ns ++ positions_from is_due 0 xs) ++ positions_from is_due 0 (map (copy_with_mark due) xs)) (map (copy_with_mark due) xs) ys
  agree-marks due ns xs ys a = record {
    vertices = map-map_same vertex_of (copy_with_mark due) (λ k. refl) xs ∙ a.vertices;
    same = λ i d l h.
        let q = has-append (ns ++ positions_from is_due 0 xs) (positions_from is_due 0 (map (copy_with_mark due) xs)) i h in
        let r = has-append ns (positions_from is_due 0 xs) i q.0 in
        let li : i < length xs = omega (arith, agree-length ns xs ys a) in
        let lm : i < length (map (copy_with_mark due) xs) = omega (arith, length-map xs (copy_with_mark {V = V} due)) in
        let z : i ≡ 0 + i = omega arith in
        let was = no-position is_due 0 i i xs d z li r.1 in
        let now = no-position is_due 0 i i (map (copy_with_mark due) xs) d z lm q.1 in
        let e = get_or-map (copy_with_mark due) xs i d d li in
        let off : has due (get_or xs i d).vertex ≡ false = sym (ap (is_due {V = V}) e) ∙ now in
        e ∙ ap (λ b. with_mark b (get_or xs i d)) (off ∙ sym was) ∙ a.same i d l r.0;
  }

-- a list that differs from another at the positions that are left to copy
pub copied_more : {X : Type 0} (xs ys : List X) (ns : List ℕ) (j : ℕ) (y : X) → j < length ns → get_or ns j 0 < length ys → length xs ≡ length ys → y ≡ get_or ys (get_or ns j 0) y → SameBut (drop j ns) xs ys → SameBut (drop (j + 1) ns) (set xs (get_or ns j 0) y) ys
copied_more xs ys ns j y lj la len e same = λ i d l h. elim (cases_eq i (get_or ns j 0)) [
  | inl here ↦
      ap (λ n. get_or (set xs (get_or ns j 0) y) n d) here ∙ get_or-set_same xs (get_or ns j 0) y d (omega arith)
      ∙ e ∙ get_or_default ys (get_or ns j 0) y d la ∙ ap (λ n. get_or ys n d) (sym here)
  | inr apart ↦
      get_or-set_other xs (get_or ns j 0) i y d apart
      ∙ same i d l (ap (λ t. has t i) (drop_more ns j 0 lj) ∙ none_first (get_or ns j 0) (drop (j + 1) ns) i apart h)
]
  where
    none_first : (n : ℕ) (ms : List ℕ) (i : ℕ) → i ≢ n → has ms i ≡ false → has (n ∷ ms) i ≡ false
    none_first n ms i ne h = ap (λ b. b || has ms i) (ne_eqb n i (λ s. ne (sym s))) ∙ h

-- a position past the end says nothing
pub copied_past : {X : Type 0} (xs ys : List X) (ns : List ℕ) (j : ℕ) → j < length ns → length ys ≤ get_or ns j 0 → SameBut (drop j ns) xs ys → SameBut (drop (j + 1) ns) xs ys
copied_past xs ys ns j lj past same = λ i d l h.
    let ne : eqb (get_or ns j 0) i ≡ false = ne_eqb (get_or ns j 0) i (λ s. absurd (omega arith)) in
    same i d l (ap (λ t. has t i) (drop_more ns j 0 lj) ∙ ap (λ b. b || has (drop (j + 1) ns) i) ne ∙ h)
