-- A set of places with one more place.
use Rattle.std.proofs.Common.{◌≡◌, ◌<◌, ℕ, List, [], ◌∷◌, Bool, true, false, eqb, refl, sym, ap, ◌∙◌, subst, arith, inl, inr}
use Rattle.std.specs.Prelude.{◌||◌, not, slice_get, Some}
use Rattle.std.specs.List.{All}
use Rattle.std.proofs.Math.Bool.{or-false, or_assoc, or_comm, or_self_left}
use Rattle.std.proofs.lemmas.Bool.{cases_order, eq-eqb, ne_eqb, lt-ltb, le-ltb}
use Rattle.std.proofs.lemmas.List.Elements.{All-cons, All-nil, All-head, All-tail}
use Rattle.gr_base.specs.Rising.{RisesBy, has, with_item}
use Rattle.gr_base.specs.Places.{IsPlaces, with_place, without_place}
use Rattle.gr_base.proofs.Rising.{with-rises, rises-head}

pub has-with_place : (ps : List ℕ) (p r : ℕ) → has (with_place ps p) r ≡ (has ps r || eqb p r)
has-with_place [] p r = or-false (eqb p r)
has-with_place (x ∷ xs) p r = elim (cases_order p x) [
  | inl same ↦
      let twice : (a b : Bool) → (a || b) ≡ ((a || b) || a) = λ a b. sym (or_comm (a || b) a ∙ or_self_left a b) in
      rw (le-ltb x p (omega arith), le-ltb p x (omega arith)) (twice (eqb x r) (has xs r) ∙ ap (λ (n : ℕ). (eqb x r || has xs r) || eqb n r) (sym same))
  | inr o ↦ elim o [
    | inl lt ↦ rw (lt-ltb p x lt) (or_comm (eqb p r) (eqb x r || has xs r))
    | inr gt ↦ rw (le-ltb p x (omega arith), lt-ltb x p gt) (ap (λ b. eqb x r || b) (has-with_place xs p r) ∙ sym (or_assoc (eqb x r) (has xs r) (eqb p r)))
  ]
]

-- it is the rising list with one more number
with_place-item : (ps : List ℕ) (p : ℕ) → with_place ps p ≡ with_item (λ q. q) p ps
with_place-item [] p = refl
with_place-item (q ∷ qs) p = elim (cases_order q p) [
  | inl same ↦ rw (le-ltb p q (omega arith), le-ltb q p (omega arith), eq-eqb q p same) (ap (λ x. x ∷ qs) same)
  | inr o ↦ elim o [
    | inl lt ↦ rw (le-ltb p q (omega arith), lt-ltb q p lt) (ap (λ r. q ∷ r) (with_place-item qs p))
    | inr gt ↦ rw (lt-ltb p q gt, le-ltb q p (omega arith), ne_eqb q p (λ e. omega arith)) refl
  ]
]

below-with : (n : ℕ) (ps : List ℕ) (p : ℕ) → p < n → All (λ q. q < n) ps → All (λ q. q < n) (with_place ps p)
below-with n [] p lt a = All-cons (λ q. q < n) p [] lt (All-nil (λ q. q < n))
below-with n (q ∷ qs) p lt a =
    let B : ℕ → Type 0 = (λ x. x < n) in let here = All-head B q qs a in let rest = All-tail B q qs a in
    elim (cases_order q p) [
      | inl same ↦ rw (le-ltb p q (omega arith), le-ltb q p (omega arith)) a
      | inr o ↦ elim o [
        | inl under ↦ rw (le-ltb p q (omega arith), lt-ltb q p under) (All-cons B q (with_place qs p) here (below-with n qs p lt rest))
        | inr over ↦ rw (lt-ltb p q over) (All-cons B p (q ∷ qs) lt a)
      ]
    ]

pub IsPlaces-with : (ps : List ℕ) (p : ℕ) → p < 64 → IsPlaces ps → IsPlaces (with_place ps p)
IsPlaces-with ps p lt S = record {
  rise = subst (RisesBy (λ q. q)) (sym (with_place-item ps p)) (with-rises (λ q. q) p ps S.rise);
  below = below-with 64 ps p lt S.below;
}

-- the least place taken out of a set
kept-above : (p : ℕ) (ps : List ℕ) → All (λ q. p < q) ps → without_place ps p ≡ ps
kept-above p [] above = refl
kept-above p (q ∷ ps) above =
    let on : not (eqb q p) ≡ true = ap not (ne_eqb q p (λ e. let lt = All-head (λ r. p < r) q ps above in omega arith)) in
    rw (on, kept-above p ps (All-tail (λ r. p < r) q ps above)) refl

pub split-without_place : (ps : List ℕ) (p : ℕ) → IsPlaces ps → slice_get ps 0 ≡ Some p → ps ≡ p ∷ without_place ps p
split-without_place [] p is e = absurd (cc)
split-without_place (q ∷ ps) p is e =
    let later = rises-head (λ (r : ℕ). r) q ps is.rise in
    let same : q ≡ p = cc in
    let above = subst (λ r. All (λ s. r < s) ps) same later in
    let out : not (eqb q p) ≡ false = ap not (eq-eqb q p same) in
    rw (out, kept-above p ps above) (ap (λ r. r ∷ ps) same)
