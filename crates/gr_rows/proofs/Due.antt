-- What making copies due leaves of them, and of the positions of the due copies.
use Rattle.std.proofs.Common.{◌≡◌, ◌∙◌, ◌<◌, ◌≤◌, ◌+◌, ℕ, suc, Bool, true, false, cond, List, [], ◌∷◌, ◌++◌, ◌||◌, get_or, set, map, take, length, eqb, ltb, refl, ap, sym, subst, arith, inl, inr}
use Rattle.std.proofs.Math.Bool.{beq}
use Rattle.std.specs.List.{All, list_any, prefix_len}
use Rattle.std.proofs.lemmas.Bool.{cases_Bool, cases_eq, eq-eqb, ne_eqb}
use Rattle.std.proofs.lemmas.List.{length-map, length-take-le, length-set, get_or-map, get_or-take, get_or_default, take_more}
use Rattle.std.proofs.lemmas.List.Folds.{list_any-append}
use Rattle.gr_base.specs.Rising.{RisesBy, has}
use Rattle.gr_base.proofs.Rising.{mapped-at, mapped-rises, missing-at}
use Rattle.gr_program.specs.declared.copy.VertexCopy.{VertexCopy}
use Rattle.gr_rows.proofs.Positions.{positions-few, positions-set_last, take-positions}
use Rattle.gr_rows.proofs.Vertices.{map-map_same}
use Rattle.gr_rows.specs.Layer.{IsAt, GoesAt, is_due, copy_made_due}
use Rattle.gr_rows.specs.Layers.{vertex_of, copy_with_mark}
use Rattle.gr_rows.specs.Positions.{positions_from}

or-true : (b : Bool) → (b || true) ≡ true
or-true true = refl
or-true false = refl

or-false : (b : Bool) → (b || false) ≡ b
or-false true = refl
or-false false = refl

pub beq-same : (a b : Bool) → beq a b ≡ true → a ≡ b
beq-same true true e = refl
beq-same false false e = refl
beq-same true false e = cc
beq-same false true e = cc

has-below : (w v : ℕ) (ns : List ℕ) → All (λ n. n < v) ns → has ns w ≡ true → w < v
has-below w v [] a t = cc
has-below w v (n ∷ ns) a t = elim (cases_eq n w) [
  | inl e ↦ let q : n < v = a 0 n (omega arith) in omega arith
  | inr apart ↦
      let q : has ns w ≡ true = sym (ap (λ b. b || has ns w) (ne_eqb n w apart)) ∙ t in
      has-below w v ns (λ i d l. a (suc i) d (omega arith)) q
]

module _ {V : Type 0} where
  abbrev pub with_mark : Bool → VertexCopy V → VertexCopy V
  with_mark b c = record c { due = b }

  with_mark-more : (b : Bool) (v : ℕ) (c : VertexCopy V) → cond (eqb c.vertex v) (with_mark true c) (with_mark b c) ≡ with_mark (b || (eqb v c.vertex || false)) c
  with_mark-more b v c = elim (cases_eq c.vertex v) [
    | inl e ↦
        let one : eqb c.vertex v ≡ true = eq-eqb c.vertex v e in
        let two : eqb v c.vertex ≡ true = eq-eqb v c.vertex (sym e) in
        rw (one, two) (ap (λ x. with_mark x c) (sym (or-true b)))
    | inr apart ↦
        let one : eqb c.vertex v ≡ false = ne_eqb c.vertex v apart in
        let two : eqb v c.vertex ≡ false = ne_eqb v c.vertex (λ e. apart (sym e)) in
        rw (one, two) (ap (λ x. with_mark x c) (sym (or-false b)))
  ]

  -- one vertex more whose copy is made due
  pub marks_more : (due : List ℕ) (j d : ℕ) (xs : List (VertexCopy V)) → j < length due → map (copy_made_due (get_or due j d)) (map (copy_with_mark (take j due)) xs) ≡ map (copy_with_mark (take (j + 1) due)) xs
  marks_more due j d [] l = refl
  marks_more due j d (c ∷ cs) l =
      let h : has (take (j + 1) due) c.vertex ≡ (has (take j due) c.vertex || (eqb (get_or due j d) c.vertex || false)) = ap (λ ns. has ns c.vertex) (take_more due j d l) ∙ list_any-append (λ (x : ℕ). eqb x c.vertex) (take j due) (get_or due j d ∷ []) in
      let one : copy_made_due (get_or due j d) (copy_with_mark (take j due) c) ≡ copy_with_mark (take (j + 1) due) c = with_mark-more (has (take j due) c.vertex) (get_or due j d) c ∙ ap (λ x. with_mark x c) (sym h) in
      ap (λ x. x ∷ map (copy_made_due (get_or due j d)) (map (copy_with_mark (take j due)) cs)) one ∙ ap (λ t. copy_with_mark (take (j + 1) due) c ∷ t) (marks_more due j d cs l)

  -- what is due so far is of vertices below the next
  pub marks_below : (due : List ℕ) (j d : ℕ) (xs : List (VertexCopy V)) → RisesBy (λ (n : ℕ). n) due → j < length due → All (λ c. c.due ≡ true → c.vertex < get_or due j d) (map (copy_with_mark (take j due)) xs)
  marks_below due j d xs r l = λ i k h t.
      let li : i < length xs = omega (arith, length-map xs (copy_with_mark {V = V} (take j due))) in
      let e = get_or-map (copy_with_mark {V = V} (take j due)) xs i k k li in
      let front : All (λ n. n < get_or due j d) (take j due) = λ a b q.
      let la : a < j = omega (arith, length-take-le j due (omega arith)) in
      omega (arith, get_or-take j due a b la, r a j b la l, get_or_default due j b d l)
      in
      let q = has-below (get_or xs i k).vertex (get_or due j d) (take j due) front (sym (ap (λ (c : VertexCopy V). c.due) e) ∙ t) in
      subst (λ (n : ℕ). n < get_or due j d) (sym (ap (λ (c : VertexCopy V). c.vertex) e)) q

  made_due-keeps : (b : Bool) (c : VertexCopy V) → vertex_of (cond b (with_mark true c) c) ≡ vertex_of c
  made_due-keeps true c = refl
  made_due-keeps false c = refl

  pub made_due-rises : (v : ℕ) (xs : List (VertexCopy V)) → RisesBy vertex_of xs → RisesBy vertex_of (map (copy_made_due v) xs)
  made_due-rises v xs r = mapped-rises vertex_of (copy_made_due v) (λ c. made_due-keeps (eqb c.vertex v) c) xs r

  pub made_due-vertices : (v : ℕ) (xs : List (VertexCopy V)) → map vertex_of (map (copy_made_due v) xs) ≡ map vertex_of xs
  made_due-vertices v xs = map-map_same vertex_of (copy_made_due v) (λ c. made_due-keeps (eqb c.vertex v) c) xs

  -- the copy at the position of a vertex made due
  pub set-made_due : (v at : ℕ) (xs : List (VertexCopy V)) (k : VertexCopy V) → RisesBy vertex_of xs → IsAt v at xs → k ≡ get_or xs at k → set xs at (with_mark true k) ≡ map (copy_made_due v) xs
  set-made_due v at xs k r is e = ap (λ (y : VertexCopy V). set xs at (with_mark true y)) e ∙ mapped-at vertex_of (with_mark true) v xs at k r is.place is.within (is.is k)

  none_of : (v : ℕ) (xs : List (VertexCopy V)) → list_any (λ (c : VertexCopy V). eqb c.vertex v) xs ≡ false → map (copy_made_due v) xs ≡ xs
  none_of v [] e = refl
  none_of v (c ∷ cs) e = elim (cases_Bool (eqb c.vertex v)) [
    | inl on ↦ let q : true ≡ false = sym (ap (λ b. b || list_any (λ (x : VertexCopy V). eqb x.vertex v) cs) on) ∙ e in cc
    | inr off ↦
        let q : list_any (λ (x : VertexCopy V). eqb x.vertex v) cs ≡ false = sym (ap (λ b. b || list_any (λ (x : VertexCopy V). eqb x.vertex v) cs) off) ∙ e in
        rw off (ap (λ t. c ∷ t) (none_of v cs q))
  ]

  pub made_due-missing : (v at : ℕ) (xs : List (VertexCopy V)) (d : VertexCopy V) → RisesBy vertex_of xs → GoesAt v at xs → map (copy_made_due v) xs ≡ xs
  made_due-missing v at xs d r is = none_of v xs (missing-at vertex_of v xs at d r is.place (λ l. is.apart d l)).1

  -- the position of a copy made due comes after those of the copies that are due
  pub positions-made_due : (v at : ℕ) (xs : List (VertexCopy V)) (y : VertexCopy V) → is_due y ≡ true → RisesBy vertex_of xs → IsAt v at xs → All (λ c. c.due ≡ true → c.vertex < v) xs → positions_from is_due 0 (set xs at y) ≡ positions_from is_due 0 xs ++ at ∷ []
  positions-made_due v at xs y on r is below =
      let none : (i : ℕ) (d : VertexCopy V) → at ≤ i → i < length xs → is_due (get_or xs i d) ≡ false = λ i d h l. elim (cases_Bool (is_due (get_or xs i d))) [
        | inl t ↦
            let lt = below i d l t in
            elim (cases_eq at i) [
              | inl e ↦ absurd (omega (arith, is.is d, ap (λ n. vertex_of (get_or xs n d)) e))
              | inr apart ↦ absurd (omega (arith, is.is d, r at i d (omega arith) l))
            ]
        | inr off ↦ off
      ] in
      let z : 0 + at ≡ at = omega arith in
      positions-set_last is_due 0 at xs y on is.within none ∙ ap (λ n. positions_from is_due 0 xs ++ n ∷ []) z

  pub positions-made_due-few : (v at : ℕ) (xs : List (VertexCopy V)) (y : VertexCopy V) → is_due y ≡ true → RisesBy vertex_of xs → IsAt v at xs → All (λ c. c.due ≡ true → c.vertex < v) xs → length (positions_from is_due 0 xs ++ at ∷ []) ≤ length xs
  positions-made_due-few v at xs y on r is below = omega (arith, ap length (positions-made_due v at xs y on r is below), positions-few is_due 0 (set xs at y), length-set xs at y)

  -- the positions below one, where the front of the list stays
  pub kept-below : (due : List ℕ) (at : ℕ) (xs ys : List (VertexCopy V)) → due ≡ positions_from is_due 0 xs → take at ys ≡ take at xs → take (prefix_len (λ (n : ℕ). ltb n at) due) due ≡ positions_from is_due 0 (take at ys)
  kept-below due at xs ys e f = ap (λ ns. take (prefix_len (λ (n : ℕ). ltb n at) ns) ns) e ∙ take-positions is_due at xs ∙ ap (positions_from is_due 0) (sym f)
