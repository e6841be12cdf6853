-- The first of the places below a count that pass a test.
use Rattle.std.proofs.Common.{◌≡◌, ◌<◌, ◌≤◌, ℕ, zero, suc, ◌+◌, Bool, true, false, refl, sym, subst, arith, Some, None}
use Rattle.std.specs.List.{find, range_with_len}
use Rattle.gr_base.specs.Places.{below}
use Rattle.gr_lists.proofs.Tests.{by_same}

module _ (f : ℕ → Bool) where
  find-range_some : (n a p : ℕ) → a ≤ p → p < a + n → ((q : ℕ) → a ≤ q → q < p → f q ≡ false) → f p ≡ true → find f (range_with_len a n) ≡ Some p
  find-range_some zero a p le lt before is = absurd (omega arith)
  find-range_some (suc n) a p le lt before is = by_same a p
      (λ e. subst (λ q. find f (range_with_len a (suc n)) ≡ Some q) e (let here : f a ≡ true = subst (λ q. f q ≡ true) (sym e) is in rw here refl))
      (λ ne. let off : f a ≡ false = before a (omega arith) (omega arith) in rw off (find-range_some n (a + 1) p (omega arith) (omega arith) (λ q le' lt'. before q (omega arith) lt') is))

  find-range_none : (n a : ℕ) → ((q : ℕ) → a ≤ q → q < a + n → f q ≡ false) → find f (range_with_len a n) ≡ None
  find-range_none zero a none = refl
  find-range_none (suc n) a none =
      let off : f a ≡ false = none a (omega arith) (omega arith) in rw off (find-range_none n (a + 1) (λ q le lt. none q (omega arith) (omega arith)))

  pub first-below : (n p : ℕ) → p < n → ((q : ℕ) → q < p → f q ≡ false) → f p ≡ true → Some p ≡ find f (below n)
  first-below n p lt before is = sym (find-range_some n 0 p (omega arith) (omega arith) (λ q le lt'. before q lt') is)

  pub none-below : (n : ℕ) → ((q : ℕ) → q < n → f q ≡ false) → None ≡ find f (below n)
  none-below n none = sym (find-range_none n 0 (λ q le lt. none q (omega arith)))
