-- The laws of joining bits.
use Rattle.std.specs.Prelude.{◌≡◌, ℕ, zero, suc, ◌+◌, ◌^◌, ◌<◌, ◌≤◌, ◌==◌, min, Bool, true, false, List, ◌∷◌, length, slice_index, bit_or, IsTrue, refl, if◌then◌else◌}
use Rattle.std.specs.List.{filter, range_with_len}
use Rattle.std.specs.Int.Bits.{or_zero_l}
use Rattle.std.proofs.Common.{arith, ap, add-one}
use Rattle.std.proofs.Math.Nat.{pow-le-pow_right, pow-succ'}
use Rattle.std.proofs.lemmas.Nat.{or_lt}
use Rattle.std.proofs.lemmas.Nat.{or_comm as bits_comm}
use Rattle.std.proofs.lemmas.Nat.Bits.{bit_at_or, same_from_bits}
use Rattle.std.proofs.lemmas.Bool.Decides.{nat_tests}
use Rattle.gr_base.specs.Places.{word_of}
use Rattle.gr_sum.specs.Infinity.{is_number}
use Rattle.gr_sum.specs.Seeds.{seed_bits}

pub or-kept : (a b : ℕ) → IsTrue (is_number a) → IsTrue (is_number b) → IsTrue (is_number (bit_or a b))
or-kept a b h k =
    let small : bit_or a b < 2 ^ 64 = or_lt 64 a b (grind (arith, nat_tests)) (grind (arith, nat_tests)) in
    grind (arith, nat_tests)

pub or-assoc : (a b c : ℕ) → bit_or (bit_or a b) c ≡ bit_or a (bit_or b c)
or-assoc a b c = same_from_bits _ _ (λ i. omega (arith, bit_at_or (bit_or a b) c i, bit_at_or a b i, bit_at_or a (bit_or b c) i, bit_at_or b c i))

pub or-comm : (a b : ℕ) → bit_or a b ≡ bit_or b a
or-comm a b = bits_comm a b

pub or-unit : (a : ℕ) → bit_or 0 a ≡ a
or-unit a = or_zero_l a

kept : (b : Bool) (a w : ℕ) (ps : List ℕ) → word_of ps ≡ w → word_of (if b then a ∷ ps else ps) ≤ 2 ^ a + w
kept true a w ps is = omega arith
kept false a w ps is = omega arith

pub word_of-filter : (f : ℕ → Bool) (a k : ℕ) → word_of (filter f (range_with_len a k)) + 2 ^ a ≤ 2 ^ (a + k)
word_of-filter f a zero = let same : a + zero ≡ a = omega arith in omega (arith, ap (λ (n : ℕ). 2 ^ n) same)
word_of-filter f a (suc k) =
    let rest = word_of-filter f (a + 1) k in
    let here = kept (f a) a _ (filter f (range_with_len (a + 1) k)) refl in
    let next : a + 1 + k ≡ a + suc k = omega arith in
    omega (arith, rest, here, pow-succ' 2 a, ap (λ (n : ℕ). 2 ^ n) next, ap (λ (n : ℕ). 2 ^ n) (add-one a))

pub mask-kept : (seeds : List ℕ) (v : ℕ) → IsTrue (is_number (seed_bits seeds v))
mask-kept seeds v =
    let n = min (length seeds) 64 in
    let small = word_of-filter (λ i. slice_index seeds i == v) 0 n in
    let few : n ≤ 64 = omega arith in
    let le : 2 ^ n ≤ 2 ^ 64 = pow-le-pow_right {n = 2} (omega arith) few in
    let is : 0 + n ≡ n = omega arith in
    let number : seed_bits seeds v < 2 ^ 64 = omega (arith, small, le, ap (λ (m : ℕ). 2 ^ m) is) in
    grind (arith, nat_tests)
