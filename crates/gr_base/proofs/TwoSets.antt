-- The places of two words of 64 bits, taken together.
use Rattle.std.proofs.Common.{◌≡◌, ℕ, zero, suc, ◌-◌, ◌^◌, ◌<◌, min, max, true, false, List, [], ◌∷◌, get_or, eqb, not, refl, sym, ap, ◌∙◌, inl, inr, arith}
use Rattle.std.specs.Prelude.{◌&&◌, ◌||◌, bit_and, bit_or}
use Rattle.std.specs.Int.{bit_at, w64}
use Rattle.std.proofs.lemmas.Bool.{cases_Bool, cases_eq, cond-false, eq-eqb, ne_eqb, true≢false}
use Rattle.std.proofs.lemmas.Nat.Bits.{bit_at_and, bit_at_or, bit_at_not, bit_at-lt}
use Rattle.std.proofs.lemmas.List.Elements.{All-from_get_or}
use Rattle.std.proofs.lemmas.List.Folds.{list_any_at}
use Rattle.gr_base.specs.Rising.{has, without, union, includes}
use Rattle.gr_base.specs.Places.{IsPlaces}
use Rattle.gr_base.specs.PlaceBits.{members_from, is_bit}
use Rattle.gr_base.proofs.Members.{members_same, members_filter, members_contains, passes_from_contains}
use Rattle.gr_base.proofs.PlaceTests.{has-contains, is_has}
use Rattle.gr_base.proofs.PlaceSets.{places-has}
use Rattle.gr_base.proofs.Union.{has-union, union-rises}
use Rattle.gr_base.proofs.Bits.{are_places, no_places, some_place}

-- a place stands in a set if its bit is set
pub has-places : (n q : ℕ) → q < 64 → has (members_from (is_bit n) 0 64) q ≡ is_bit n q
has-places n q lt = sym (is_has (is_bit n q) (members_from (is_bit n) 0 64) q ((λ on. members_contains (is_bit n) q 0 64 (omega arith) (omega arith) on), (λ held. (passes_from_contains (is_bit n) q 0 64 held).2)))

min-not : (a b : ℕ) → a < 2 → b < 2 → eqb (min a (1 - b)) 1 ≡ (eqb a 1 && not (eqb b 1))
min-not zero zero la lb = refl
min-not zero (suc zero) la lb = refl
min-not (suc zero) zero la lb = refl
min-not (suc zero) (suc zero) la lb = refl
min-not (suc (suc a)) b la lb = absurd (omega arith)
min-not a (suc (suc b)) la lb = absurd (omega arith)

is_bit-and_not : (n m q : ℕ) → m < 2 ^ 64 → q < 64 → is_bit (bit_and n (2 ^ 64 - 1 - m)) q ≡ (is_bit n q && not (is_bit m q))
is_bit-and_not n m q small lt =
    ap (λ (b : ℕ). eqb b 1) (bit_at_and n (2 ^ 64 - 1 - m) q ∙ ap (λ (b : ℕ). min (bit_at n q) b) (bit_at_not w64 m q small lt))
    ∙ min-not (bit_at n q) (bit_at m q) (bit_at-lt n q) (bit_at-lt m q)

pub places-difference : (n m : ℕ) → m < 2 ^ 64 → members_from (is_bit (bit_and n (2 ^ 64 - 1 - m))) 0 64 ≡ without (members_from (is_bit n) 0 64) (members_from (is_bit m) 0 64)
places-difference n m small =
    let held = members_from (is_bit m) 0 64 in
    members_same _ _ 0 64 (λ q low high. is_bit-and_not n m q small (omega arith) ∙ ap (λ b. is_bit n q && not b) (sym (has-places m q (omega arith))))
    ∙ sym (members_filter (is_bit n) (λ q. not (has held q)) 0 64)

-- ---- the places of both

max-either : (a b : ℕ) → a < 2 → b < 2 → eqb (max a b) 1 ≡ (eqb a 1 || eqb b 1)
max-either zero zero la lb = refl
max-either zero (suc zero) la lb = refl
max-either (suc zero) zero la lb = refl
max-either (suc zero) (suc zero) la lb = refl
max-either (suc (suc a)) b la lb = absurd (omega arith)
max-either a (suc (suc b)) la lb = absurd (omega arith)

is_bit-or : (n m q : ℕ) → is_bit (bit_or n m) q ≡ (is_bit n q || is_bit m q)
is_bit-or n m q = ap (λ (b : ℕ). eqb b 1) (bit_at_or n m q) ∙ max-either (bit_at n q) (bit_at m q) (bit_at-lt n q) (bit_at-lt m q)

module _ (xs ys : List ℕ) (is : IsPlaces xs) (are : IsPlaces ys) where
  below-either : (v : ℕ) → (has xs v || has ys v) ≡ true → v < 64
  below-either v on = elim (cases_Bool (has xs v)) [
    | inl left ↦ let c = has-contains xs v left in let low = is.below c.0 v c.1 in omega (arith, c.2, low)
    | inr off ↦ let c = has-contains ys v (rw off at on) in let low = are.below c.0 v c.1 in omega (arith, c.2, low)
  ]

  pub IsPlaces-union : IsPlaces (union xs ys)
  IsPlaces-union = record {
    rise = union-rises xs ys is.rise are.rise;
    below = All-from_get_or (λ p. p < 64) (union xs ys) 0 (λ i lt. let v = get_or (union xs ys) i 0 in below-either v (sym (has-union v xs ys) ∙ list_any_at (λ x. eqb x v) (union xs ys) i 0 lt (eq-eqb v v refl)));
  }

pub places-union : (n m : ℕ) → members_from (is_bit (bit_or n m)) 0 64 ≡ union (members_from (is_bit n) 0 64) (members_from (is_bit m) 0 64)
places-union n m =
    let ps = members_from (is_bit n) 0 64 in let qs = members_from (is_bit m) 0 64 in
    members_same _ (has (union ps qs)) 0 64 (λ q low high.
    is_bit-or n m q ∙ (λ i. sym (has-places n q (omega arith)) i || sym (has-places m q (omega arith)) i) ∙ sym (has-union q ps qs))
    ∙ places-has (union ps qs) (IsPlaces-union ps qs (are_places n) (are_places m))

-- ---- one set within another

includes-none : (xs ys : List ℕ) → without ys xs ≡ [] → includes xs ys ≡ true
includes-none xs [] e = refl
includes-none xs (y ∷ ys) e = elim (cases_Bool (has xs y)) [
  | inl on ↦ ap (λ b. b && includes xs ys) on ∙ includes-none xs ys (rw on at e)
  | inr off ↦ let left = rw off at e in absurd (cc)
]

includes-some : (xs ys : List ℕ) → (without ys xs ≡ [] → ⊥) → includes xs ys ≡ false
includes-some xs [] h = absurd (h refl)
includes-some xs (y ∷ ys) h = elim (cases_Bool (has xs y)) [
  | inl on ↦ ap (λ b. b && includes xs ys) on ∙ includes-some xs ys (λ e. h (cond-false (not (has xs y)) (y ∷ without ys xs) (without ys xs) (ap not on) ∙ e))
  | inr off ↦ ap (λ b. b && includes xs ys) off
]

pub places-includes : (n m : ℕ) → n < 2 ^ 64 → bit_and m (2 ^ 64 - 1 - n) < 2 ^ 64 → eqb (bit_and m (2 ^ 64 - 1 - n)) 0 ≡ includes (members_from (is_bit n) 0 64) (members_from (is_bit m) 0 64)
places-includes n m small within =
    let left = bit_and m (2 ^ 64 - 1 - n) in
    let ps = members_from (is_bit n) 0 64 in let qs = members_from (is_bit m) 0 64 in
    elim (cases_eq left 0) [
      | inl none ↦ eq-eqb left 0 none ∙ sym (includes-none ps qs (sym (places-difference m n small) ∙ no_places left none))
      | inr some ↦ ne_eqb left 0 some ∙ sym (includes-some ps qs (λ e. true≢false ((some_place left (omega arith) within).1 (places-difference m n small ∙ e))))
    ]
