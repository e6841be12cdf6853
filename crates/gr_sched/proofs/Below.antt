-- The places of a set that are below a number, as the number rises.
use Rattle.std.proofs.Common.{◌≡◌, ◌∙◌, ◌+◌, ◌<◌, ◌≤◌, ℕ, suc, Bool, true, false, cond, ltb, List, [], ◌∷◌, ◌++◌, refl, sym, ap, arith, inl, inr}
use Rattle.std.specs.Prelude.{◌||◌}
use Rattle.std.specs.List.{All, filter, flat_map}
use Rattle.std.proofs.lemmas.Bool.{cases_Bool, cases_eq, cases_lt, cond-true, cond-false, eq-eqb, ne_eqb, lt-ltb, le-ltb}
use Rattle.std.proofs.lemmas.List.{append-nil, flat_map_more}
use Rattle.gr_base.specs.Rising.{RisesBy, has}
use Rattle.gr_base.specs.Places.{IsPlaces}
use Rattle.gr_base.proofs.Rising.{rises-head, rises-tail, none-later}

abbrev pub below : ℕ → List ℕ → List ℕ
below n ps = filter (λ q. ltb q n) ps

abbrev id : ℕ → ℕ
id n = n

pub none-below : (n : ℕ) (ps : List ℕ) → All (λ q. n ≤ q) ps → below n ps ≡ []
none-below n [] a = refl
none-below n (q ∷ qs) a = cond-false (ltb q n) (q ∷ below n qs) (below n qs) (le-ltb q n (a 0 q (omega arith))) ∙ none-below n qs (λ k d lt. a (suc k) d (omega arith))

pub all-below : (n : ℕ) (ps : List ℕ) → All (λ q. q < n) ps → below n ps ≡ ps
all-below n [] a = refl
all-below n (q ∷ qs) a =
    cond-true (ltb q n) (q ∷ below n qs) (below n qs) (lt-ltb q n (a 0 q (omega arith)))
    ∙ ap (λ (l : List ℕ). q ∷ l) (all-below n qs (λ k d lt. a (suc k) d (omega arith)))

-- one place more, where it is a member
pub below-member : (p : ℕ) (ps : List ℕ) → RisesBy (λ (n : ℕ). n) ps → has ps p ≡ true → below (p + 1) ps ≡ below p ps ++ p ∷ []
below-member p [] rise h = cc
below-member p (q ∷ qs) rise h =
    let above : All (λ y. q < y) qs = rises-head id q qs rise in
    elim (cases_eq q p) [
      | inl e ↦
          cond-true (ltb q (p + 1)) (q ∷ below (p + 1) qs) (below (p + 1) qs) (lt-ltb q (p + 1) (omega arith))
          ∙ ap (λ (l : List ℕ). q ∷ l) (none-below (p + 1) qs (λ k d lt. let a = above k d lt in omega arith))
          ∙ ap (λ (x : ℕ). let one : List ℕ = x ∷ [] in one) e
          ∙ ap (λ (l : List ℕ). l ++ p ∷ []) (sym (cond-false (ltb q p) (q ∷ below p qs) (below p qs) (le-ltb q p (omega arith)) ∙ none-below p qs (λ k d lt. let a = above k d lt in omega arith)))
      | inr ne ↦
          let later : has qs p ≡ true = ap (λ (b : Bool). b || has qs p) (sym (ne_eqb q p ne)) ∙ h in
          elim (cases_lt q p) [
            | inl lt ↦
                cond-true (ltb q (p + 1)) (q ∷ below (p + 1) qs) (below (p + 1) qs) (lt-ltb q (p + 1) (omega arith))
                ∙ ap (λ (l : List ℕ). q ∷ l) (below-member p qs (rises-tail id q qs rise) later)
                ∙ ap (λ (l : List ℕ). l ++ p ∷ []) (sym (cond-true (ltb q p) (q ∷ below p qs) (below p qs) (lt-ltb q p lt)))
            | inr past ↦ let none = (none-later id p q qs past above).1 in cc
          ]
    ]

-- and where it is none
pub below-other : (p : ℕ) (ps : List ℕ) → has ps p ≡ false → below (p + 1) ps ≡ below p ps
below-other p [] h = refl
below-other p (q ∷ qs) h = elim (cases_eq q p) [
  | inl e ↦ let is : has (q ∷ qs) p ≡ true = ap (λ (b : Bool). b || has qs p) (eq-eqb q p e) in cc
  | inr ne ↦
      let later : has qs p ≡ false = ap (λ (b : Bool). b || has qs p) (sym (ne_eqb q p ne)) ∙ h in
      elim (cases_lt q p) [
        | inl lt ↦
            cond-true (ltb q (p + 1)) (q ∷ below (p + 1) qs) (below (p + 1) qs) (lt-ltb q (p + 1) (omega arith))
            ∙ ap (λ (l : List ℕ). q ∷ l) (below-other p qs later)
            ∙ sym (cond-true (ltb q p) (q ∷ below p qs) (below p qs) (lt-ltb q p lt))
        | inr past ↦
            cond-false (ltb q (p + 1)) (q ∷ below (p + 1) qs) (below (p + 1) qs) (le-ltb q (p + 1) (omega arith))
            ∙ below-other p qs later
            ∙ sym (cond-false (ltb q p) (q ∷ below p qs) (below p qs) (le-ltb q p past))
      ]
]

-- a text for each place below a number
module _ (text : ℕ → List ℕ) (old : List ℕ) (ps : List ℕ) where
  pub told-none : old ≡ old ++ flat_map text (below 0 ps)
  told-none = sym (append-nil old) ∙ ap (λ (l : List ℕ). old ++ flat_map text l) (sym (none-below 0 ps (λ k d lt. omega arith)))

  pub told-more : (now new : List ℕ) (p : ℕ) → IsPlaces ps → now ≡ old ++ flat_map text (below p ps) → new ≡ now ++ cond (has ps p) (text p) [] → new ≡ old ++ flat_map text (below (p + 1) ps)
  told-more now new p places so_far is = elim (cases_Bool (has ps p)) [
    | inl member ↦
        is ∙ ap (λ (l : List ℕ). now ++ l) (cond-true (has ps p) (text p) [] member)
        ∙ ap (λ (l : List ℕ). l ++ text p) so_far ∙ flat_map_more text old (below p ps) p
        ∙ ap (λ (l : List ℕ). old ++ flat_map text l) (sym (below-member p ps places.rise member))
    | inr other ↦
        is ∙ ap (λ (l : List ℕ). now ++ l) (cond-false (has ps p) (text p) [] other)
        ∙ append-nil now ∙ so_far
        ∙ ap (λ (l : List ℕ). old ++ flat_map text l) (sym (below-other p ps other))
  ]

  pub told-all : (now : List ℕ) (n : ℕ) → 64 ≤ n → IsPlaces ps → now ≡ old ++ flat_map text (below n ps) → now ≡ old ++ flat_map text ps
  told-all now n past places so_far =
      so_far ∙ ap (λ (l : List ℕ). old ++ flat_map text l) (all-below n ps (λ k d lt. let small = places.below k d lt in omega arith))
