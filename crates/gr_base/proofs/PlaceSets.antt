-- Sets of places as what a test lets through.
use Rattle.std.proofs.Common.{◌≡◌, ◌∙◌, ◌+◌, ◌<◌, ◌≤◌, ℕ, zero, suc, Bool, true, false, List, [], ◌∷◌, eqb, ltb, refl, ap, sym, arith, inl, inr}
use Rattle.std.specs.Prelude.{◌&&◌, ◌||◌}
use Rattle.std.specs.List.{All}
use Rattle.std.proofs.Math.Bool.{and-true}
use Rattle.std.proofs.lemmas.Bool.{cases_Bool, cases_eq, eq-eqb, ne_eqb, and_from, and_left, and_right, or_left, lt-ltb, le-ltb, ltb-true, ltb-false}
use Rattle.gr_base.specs.Rising.{RisesBy, has}
use Rattle.gr_base.specs.Places.{IsPlaces, with_place}
use Rattle.gr_base.specs.PlaceBits.{members_from}
use Rattle.gr_base.proofs.Rising.{rises-head, rises-tail, none-later}
use Rattle.gr_base.proofs.Members.{members_on, members_off, members_same, members_with, members_none}

abbrev Rises : List ℕ → Type 0
Rises xs = RisesBy (λ (p : ℕ). p) xs

above : (x n : ℕ) (xs : List ℕ) → All (λ y. x < y) xs → n ≤ x → All (λ p. n ≤ p) (x ∷ xs)
above x n xs a le zero d l = le
above x n xs a le (suc i) d l = let q = a i d (omega arith) in omega arith

-- a rising list is the members of a range that it holds
pub members-has : (xs : List ℕ) (a k : ℕ) → Rises xs → All (λ p. a ≤ p) xs → All (λ p. p < a + k) xs → members_from (has xs) a k ≡ xs
members-has [] a k r low high = members_none (has []) a k (λ q l h. refl)
members-has (x ∷ xs) a zero r low high = absurd (omega (arith, low 0 x (omega arith), high 0 x (omega arith)))
members-has (x ∷ xs) a (suc k) r low high =
    let later = rises-head (λ (p : ℕ). p) x xs r in
    let from : a ≤ x = low 0 x (omega arith) in
    elim (cases_eq x a) [
      | inl at ↦
          let on : has (x ∷ xs) a ≡ true = or_left (eqb x a) (has xs a) (eq-eqb x a at) in
          let same = members_same (has (x ∷ xs)) (has xs) (a + 1) k (λ q l h. ap (λ b. b || has xs q) (ne_eqb x q (λ e. omega arith))) in
          members_on (has (x ∷ xs)) a k on
          ∙ ap (λ (ps : List ℕ). a ∷ ps) (same ∙ members-has xs (a + 1) k (rises-tail (λ (p : ℕ). p) x xs r) (λ i d l. let q = later i d l in omega arith) (λ i d l. let q = high (suc i) d (omega arith) in omega arith))
          ∙ ap (λ (y : ℕ). y ∷ xs) (sym at)
      | inr apart ↦
          let off : has (x ∷ xs) a ≡ false = ap (λ b. b || has xs a) (ne_eqb x a apart) ∙ (none-later (λ (p : ℕ). p) a x xs from later).1 in
          members_off (has (x ∷ xs)) a k off
          ∙ members-has (x ∷ xs) (a + 1) k r (above x (a + 1) xs later (omega arith)) (λ i d l. let q = high i d l in omega arith)
    ]

pub places-has : (xs : List ℕ) → IsPlaces xs → members_from (has xs) 0 64 ≡ xs
places-has xs is = members-has xs 0 64 is.rise (λ i d l. omega arith) is.below

-- ---- a set that grows by its members, one place after another

module _ (test : ℕ → Bool) where
  -- the members below p
  abbrev pub members_to : ℕ → List ℕ
  members_to p = members_from (λ q. test q && ltb q p) 0 64

  pub members_to-start : members_to 0 ≡ []
  members_to-start = members_none _ 0 64 (λ q l h. and_right (test q) (ltb q 0) (le-ltb q 0 (omega arith)))

  pub members_to-end : members_to 64 ≡ members_from test 0 64
  members_to-end = members_same _ _ 0 64 (λ q l h. ap (λ b. test q && b) (lt-ltb q 64 (omega arith)) ∙ and-true (test q))

  beside : (p q : ℕ) → (q ≡ p → ⊥) → ltb q (p + 1) ≡ ltb q p
  beside p q ne = elim (cases_Bool (ltb q p)) [
    | inl on ↦ lt-ltb q (p + 1) (omega (arith, ltb-true q p on)) ∙ sym on
    | inr off ↦ le-ltb q (p + 1) (omega (arith, ltb-false q p off)) ∙ sym off
  ]

  pub members_to-with : (p : ℕ) → p < 64 → test p ≡ true → members_to (p + 1) ≡ with_place (members_to p) p
  members_to-with p lt on =
      members_with (λ q. test q && ltb q p) (λ q. test q && ltb q (p + 1)) p 0 64 (omega arith) (omega arith)
      (and_from (test p) (ltb p (p + 1)) on (lt-ltb p (p + 1) (omega arith)))
      (λ q l h ne. ap (λ b. test q && b) (beside p q ne))

  pub members_to-same : (p : ℕ) → test p ≡ false → members_to (p + 1) ≡ members_to p
  members_to-same p off = members_same _ _ 0 64 (λ q l h. elim (cases_eq q p) [
    | inl at ↦ let gone : test q ≡ false = ap test at ∙ off in and_left (test q) (ltb q (p + 1)) gone ∙ sym (and_left (test q) (ltb q p) gone)
    | inr ne ↦ ap (λ b. test q && b) (beside p q ne)
  ])
