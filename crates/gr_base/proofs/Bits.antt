-- The places of a word of 64 bits.
use Rattle.std.proofs.Common.{◌≡◌, ℕ, zero, suc, ◌+◌, ◌-◌, ◌*◌, ◌/◌, ◌%◌, ◌^◌, ◌<◌, ◌≤◌, min, Bool, true, false, eqb, leb, cond, List, [], ◌∷◌, length, Option, Some, None, refl, sym, ap, ◌∙◌, inl, inr, arith}
use Rattle.std.specs.Prelude.{◌&&◌, ◌↔◌, slice_get, bit_and, bit_or, count_ones, IsTrue}
use Rattle.std.specs.List.{find, Contains, range_with_len}
use Rattle.std.specs.Option.{option_or}
use Rattle.std.specs.Int.{bit_at, w64, trailing_zeros}
use Rattle.std.proofs.Math.Bool.{and-true}
use Rattle.std.proofs.lemmas.Bool.{true≢false, cases_Bool, eq-eqb, ne_eqb, eqb-true, leb-true, leb-false, and_right}
use Rattle.std.proofs.lemmas.Nat.Bits.{bit_at_set_same, bit_at_set_other, bit_at_clear_same, bit_at_clear_other, bit_at-zero, bit_at_and, shr_and_one, bit_at-trailing_zeros, bit_at_mask_inside, bit_at_mask_below, ones_shl, bit_at-lt, bit_at_ones, bit_at_ones_above}
use lib.Count.{ones, ones_step}
use Rattle.std.proofs.Math.Nat.{mod-one, div-one, mod-eq_of_lt}
use Rattle.gr_base.specs.Places.{IsPlaces, word_of, with_place, without_place, first_from}
use Rattle.gr_base.specs.PlaceBits.{members_from, is_bit}
use Rattle.gr_base.specs.Words.{bits_step, word_of-members}
use Rattle.std.proofs.lemmas.List.Elements.{All-from_get_or, Contains-get_or}
use Rattle.gr_base.proofs.Rising.{rises-from_increasing}
use Rattle.gr_base.proofs.Members.{members_rise, members_same, members_with, members_without, members_filter, members_none, members_all, members_first, members_contains, passes_from_contains, find-filter}

is_bit-one : (n q : ℕ) → bit_at n q ≡ 1 → is_bit n q ≡ true
is_bit-one n q is = eq-eqb (bit_at n q) 1 is

is_bit-zero : (n q : ℕ) → bit_at n q ≡ 0 → is_bit n q ≡ false
is_bit-zero n q is = ne_eqb (bit_at n q) 1 (λ one. omega arith)

pub places-zero : members_from (is_bit 0) 0 64 ≡ []
places-zero = members_none (is_bit 0) 0 64 (λ q low high. is_bit-zero 0 q (bit_at-zero q))

pub places-ones : (c : ℕ) → c ≤ 64 → members_from (is_bit (2 ^ c - 1)) 0 64 ≡ range_with_len 0 c
places-ones c le = members_all (is_bit (2 ^ c - 1)) 0 c 64 le
    (λ q low high. is_bit-one (2 ^ c - 1) q (bit_at_ones c q (omega arith)))
    (λ q low high. is_bit-zero (2 ^ c - 1) q (bit_at_ones_above c q (omega arith)))

pub places-set : (n p : ℕ) → p < 64 → members_from (is_bit (bit_or n (1 * 2 ^ p % 2 ^ 64))) 0 64 ≡ with_place (members_from (is_bit n) 0 64) p
places-set n p lt = members_with (is_bit n) (is_bit (bit_or n (1 * 2 ^ p % 2 ^ 64))) p 0 64 (omega arith) (omega arith)
    (is_bit-one _ p (bit_at_set_same w64 n p lt))
    (λ q low high other. ap (λ (b : ℕ). eqb b 1) (bit_at_set_other w64 n p lt q other))

pub places-clear : (n p : ℕ) → p < 64 → members_from (is_bit (bit_and n (2 ^ 64 - 1 - 1 * 2 ^ p % 2 ^ 64))) 0 64 ≡ without_place (members_from (is_bit n) 0 64) p
places-clear n p lt = members_without (is_bit n) (is_bit (bit_and n (2 ^ 64 - 1 - 1 * 2 ^ p % 2 ^ 64))) p 0 64
    (is_bit-zero _ p (bit_at_clear_same w64 n p lt))
    (λ q low high other. ap (λ (b : ℕ). eqb b 1) (bit_at_clear_other w64 n p lt q (omega arith) other))

-- a bit, as the code reads it
pub bit-on : (n p : ℕ) → bit_and (n / 2 ^ p) 1 ≡ 1 → is_bit n p ≡ true
bit-on n p on = is_bit-one n p (sym (shr_and_one n p) ∙ on)

pub bit-off : (n p : ℕ) → (bit_and (n / 2 ^ p) 1 ≡ 1 → ⊥) → is_bit n p ≡ false
bit-off n p off = ne_eqb (bit_at n p) 1 (λ e. off (shr_and_one n p ∙ e))

pub has-place : (n p : ℕ) → p < 64 → IsTrue (eqb (bit_and (n / 2 ^ p) 1) 1) ↔ Contains (members_from (is_bit n) 0 64) p
has-place n p lt =
    let bit : bit_and (n / 2 ^ p) 1 ≡ bit_at n p = shr_and_one n p in (
      (λ on. members_contains (is_bit n) p 0 64 (omega arith) (omega arith) (bit-on n p (eqb-true _ 1 on))),
      (λ has. eq-eqb _ 1 (bit ∙ eqb-true _ 1 (passes_from_contains (is_bit n) p 0 64 has).2)),
    )

-- ---- how many

length-if : (b : Bool) (a : ℕ) (ps : List ℕ) → length (cond b (a ∷ ps) ps) ≡ cond b 1 0 + length ps
length-if true a ps = omega arith
length-if false a ps = omega arith

one_or_none : (r : ℕ) → r < 2 → cond (eqb r 1) 1 0 ≡ r
one_or_none zero lt = refl
one_or_none (suc zero) lt = refl
one_or_none (suc (suc r)) lt = absurd (omega arith)

ones_more : (y r : ℕ) → r < 2 → count_ones (y * 2 + r) ≡ r + count_ones y
ones_more y r lt =
    let low : (y * 2 + r) % 2 ≡ r = omega arith in
    let high : (y * 2 + r) / 2 ≡ y = omega arith in
    ones_step (y * 2 + r) ∙ (λ i. low i + count_ones (high i))

length-places_from : (n a k : ℕ) → length (members_from (is_bit n) a k) ≡ count_ones (n / 2 ^ a % 2 ^ k)
unfolding members_from ones
length-places_from n a zero = sym (ap count_ones (mod-one (n / 2 ^ a)))
length-places_from n a (suc k) =
    let rest = length-places_from n (a + 1) k in
    length-if (is_bit n a) a (members_from (is_bit n) (a + 1) k)
    ∙ (λ i. one_or_none (n / 2 ^ a % 2) (bit_at-lt n a) i + rest i)
    ∙ sym (ap count_ones (bits_step n a k) ∙ ones_more (n / 2 ^ (a + 1) % 2 ^ k) (n / 2 ^ a % 2) (bit_at-lt n a))

pub length-places : (n : ℕ) → n < 2 ^ 64 → length (members_from (is_bit n) 0 64) ≡ count_ones n
length-places n small = length-places_from n 0 64 ∙ ap (λ (x : ℕ). count_ones (x % 2 ^ 64)) (div-one n) ∙ ap count_ones (mod-eq_of_lt small)

-- ---- the first in ring order

pub first-places : (n : ℕ) → 0 < n → n < 2 ^ 64 → slice_get (members_from (is_bit n) 0 64) 0 ≡ Some (trailing_zeros w64 n)
first-places n more small =
    let lowest = bit_at-trailing_zeros w64 n more small in
    members_first (is_bit n) (trailing_zeros w64 n) 0 64 (omega arith) (omega (arith, lowest.0)) (is_bit-one n _ lowest.1) (λ q low high. is_bit-zero n q (lowest.2 q high))

-- a word with a bit has a place, and one without has none
pub some_place : (n : ℕ) → 0 < n → n < 2 ^ 64 → (true ≡ false) ↔ (members_from (is_bit n) 0 64 ≡ [])
some_place n more small = ((λ never. absurd (true≢false never)), (λ none. let first = first-places n more small in let gone : slice_get (members_from (is_bit n) 0 64) 0 ≡ None = ap (λ (ps : List ℕ). slice_get ps 0) none in absurd (cc (first, gone))))

pub no_places : (n : ℕ) → n ≡ 0 → members_from (is_bit n) 0 64 ≡ []
no_places n none = ap (λ (m : ℕ). members_from (is_bit m) 0 64) none ∙ places-zero

pub no_place : (n : ℕ) → n ≡ 0 → slice_get (members_from (is_bit n) 0 64) 0 ≡ None
no_place n none = ap (λ (ps : List ℕ). slice_get ps 0) (no_places n none)

-- the bits from a place on
is_bit-above : (n s q : ℕ) → s ≤ 64 → q < 64 → is_bit (bit_and n ((2 ^ 64 - 1) * 2 ^ s % 2 ^ 64)) q ≡ (is_bit n q && leb s q)
is_bit-above n s q le lt =
    let mask : (2 ^ 64 - 1) * 2 ^ s % 2 ^ 64 ≡ 2 ^ 64 - 2 ^ s = ones_shl 64 s le in
    let bit : bit_at (bit_and n ((2 ^ 64 - 1) * 2 ^ s % 2 ^ 64)) q ≡ min (bit_at n q) (bit_at (2 ^ 64 - 2 ^ s) q) = ap (λ (m : ℕ). bit_at (bit_and n m) q) mask ∙ bit_at_and n (2 ^ 64 - 2 ^ s) q in
    elim (cases_Bool (leb s q)) [
      | inl above ↦
          let one : bit_at (2 ^ 64 - 2 ^ s) q ≡ 1 = bit_at_mask_inside s 64 q (leb-true s q above) lt in
          let same : bit_at (bit_and n ((2 ^ 64 - 1) * 2 ^ s % 2 ^ 64)) q ≡ bit_at n q = omega (arith, bit, one, bit_at-lt n q) in
          ap (λ (b : ℕ). eqb b 1) same ∙ sym (ap (λ (b : Bool). is_bit n q && b) above ∙ and-true (is_bit n q))
      | inr below ↦
          let none : bit_at (2 ^ 64 - 2 ^ s) q ≡ 0 = bit_at_mask_below s 64 q (leb-false s q below) in
          is_bit-zero _ q (omega (arith, bit, none)) ∙ sym (and_right (is_bit n q) (leb s q) below)
    ]

module _ (n s : ℕ) (le : s ≤ 64) where
  abbrev places : List ℕ
  places = members_from (is_bit n) 0 64

  abbrev after : ℕ
  after = bit_and n ((2 ^ 64 - 1) * 2 ^ s % 2 ^ 64)

  find-places : find (λ q. leb s q) places ≡ slice_get (members_from (is_bit after) 0 64) 0
  find-places =
      find-filter (λ q. leb s q) places
      ∙ ap (λ (ps : List ℕ). slice_get ps 0) (members_filter (is_bit n) (λ q. leb s q) 0 64 ∙ members_same _ _ 0 64 (λ q low high. sym (is_bit-above n s q le (omega arith))))

  pub first_from-after : 0 < after → after < 2 ^ 64 → first_from places s ≡ Some (trailing_zeros w64 after)
  first_from-after more small = ap (λ (o : Option ℕ). option_or o (slice_get places 0)) (find-places ∙ first-places after more small)

  pub first_from-before : after ≡ 0 → first_from places s ≡ slice_get places 0
  first_from-before none = ap (λ (o : Option ℕ). option_or o (slice_get places 0)) (find-places ∙ ap (λ (m : ℕ). slice_get (members_from (is_bit m) 0 64) 0) none ∙ ap (λ (ps : List ℕ). slice_get ps 0) places-zero)

-- what a set is seen as gives its word back
pub word_of-view : (n : ℕ) (ps : List ℕ) → members_from (is_bit n) 0 64 ≡ ps → n < 2 ^ 64 → word_of ps ≡ n
word_of-view n ps view small = ap word_of (sym view) ∙ word_of-members n small

pub are_places : (n : ℕ) → IsPlaces (members_from (is_bit n) 0 64)
are_places n = record {
  rise = rises-from_increasing (members_from (is_bit n) 0 64) (members_rise (is_bit n) 0 64);
  below = All-from_get_or (λ p. p < 64) (members_from (is_bit n) 0 64) 0 (λ i lt. (passes_from_contains (is_bit n) _ 0 64 (Contains-get_or (members_from (is_bit n) 0 64) i 0 lt)).1);
}
