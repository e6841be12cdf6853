-- The bits of seeds, one seed further.
use Rattle.std.proofs.Common.{◌≡◌, ◌∙◌, ℕ, zero, suc, ◌+◌, ◌*◌, ◌%◌, ◌^◌, ◌<◌, ◌≤◌, Bool, true, false, List, [], ◌∷◌, refl, ap, add-one, arith}
use Rattle.std.specs.Prelude.{if◌then◌else◌}
use Rattle.std.specs.List.{filter, range_with_len}
use Rattle.std.proofs.lemmas.Bool.{cond-true, cond-false}
use Rattle.std.proofs.Math.Nat.{pow-le-pow_right, pow-succ', mod-eq_of_lt}
use Rattle.gr_base.specs.Places.{word_of}
use Rattle.gr_sum.specs.Laws.Bits.{word_of-filter}

word_of-if : (b : Bool) (a : ℕ) (ps : List ℕ) → word_of (if b then a ∷ ps else ps) ≡ (if b then 2 ^ a else 0) + word_of ps
word_of-if true a ps = refl
word_of-if false a ps = omega arith

word_of-filter_more : (f : ℕ → Bool) (a k : ℕ) → word_of (filter f (range_with_len a (suc k))) ≡ word_of (filter f (range_with_len a k)) + (if f (a + k) then 2 ^ (a + k) else 0)
word_of-filter_more f a zero =
    let here : a ≡ a + zero = omega arith in
    word_of-if (f a) a [] ∙ ap (λ (n : ℕ). (if f n then 2 ^ n else 0) + 0) here ∙ omega arith
word_of-filter_more f a (suc k) =
    let rest = word_of-filter_more f (a + 1) k in
    let first = word_of-if (f a) a (filter f (range_with_len (a + 1) (suc k))) in
    let before = word_of-if (f a) a (filter f (range_with_len (a + 1) k)) in
    let next : a + 1 + k ≡ a + suc k = omega arith in
    let last = ap (λ (n : ℕ). if f n then 2 ^ n else 0) next in
    omega (arith, rest, first, before, last)

module _ (f : ℕ → Bool) (i : ℕ) where
  -- the bits of the seeds before i
  abbrev bits_below : ℕ
  bits_below = word_of (filter f (range_with_len 0 i))

  pub bit-fits : (bits : ℕ) → bits ≡ bits_below → i < 64 → bits + 2 ^ i < 2 ^ 64
  bit-fits bits is lt =
      let small = word_of-filter f 0 i in
      let few : suc i ≤ 64 = omega arith in
      let le : 2 ^ suc i ≤ 2 ^ 64 = pow-le-pow_right {n = 2} (omega arith) few in
      let all : 0 + i ≡ i = omega arith in
      omega (arith, small, le, is, pow-succ' 2 i, ap (λ (m : ℕ). 2 ^ m) all)

  pub bit-word : i < 64 → 1 * 2 ^ i % 2 ^ 64 ≡ 2 ^ i
  bit-word lt =
      let small : 1 * 2 ^ i < 2 ^ 64 = omega (arith, bit-fits bits_below refl lt) in
      mod-eq_of_lt small ∙ omega arith

  more : word_of (filter f (range_with_len 0 (i + 1))) ≡ bits_below + (if f i then 2 ^ i else 0)
  more =
      let all : 0 + i ≡ i = omega arith in
      ap (λ (n : ℕ). word_of (filter f (range_with_len 0 n))) (add-one i) ∙ word_of-filter_more f 0 i ∙ ap (λ (n : ℕ). bits_below + (if f n then 2 ^ n else 0)) all

  pub bits-with : (bits new : ℕ) → bits ≡ bits_below → f i ≡ true → new ≡ bits + 2 ^ i → new ≡ word_of (filter f (range_with_len 0 (i + 1)))
  bits-with bits new is on e = let added = cond-true (f i) (2 ^ i) 0 on in omega (arith, more, added, is, e)

  pub bits-without : (bits new : ℕ) → bits ≡ bits_below → f i ≡ false → new ≡ bits → new ≡ word_of (filter f (range_with_len 0 (i + 1)))
  bits-without bits new is off e = let added = cond-false (f i) (2 ^ i) 0 off in omega (arith, more, added, is, e)
