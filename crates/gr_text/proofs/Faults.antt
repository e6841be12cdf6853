-- The first that a function finds in a range of numbers.
use Rattle.std.proofs.Common.{◌≡◌, ℕ, zero, suc, ◌+◌, ◌<◌, ◌≤◌, Option, Some, None, refl, ap, ◌∙◌, arith, inl, inr}
use Rattle.std.specs.Prelude.{slice_get}
use Rattle.std.specs.List.{filter_map, cons_option, range_with_len}
use Rattle.std.proofs.lemmas.Bool.{cases_eq}
use Rattle.gr_text.specs.Faults.{first_fault_by}

module _ {Y : Type 0} (f : ℕ → Option Y) where
  none-found : (a n : ℕ) → ((i : ℕ) → a ≤ i → i < a + n → f i ≡ None) → slice_get (filter_map f (range_with_len a n)) 0 ≡ None
  none-found a zero none = refl
  none-found a (suc n) none =
      ap (λ (o : Option Y). slice_get (cons_option o (filter_map f (range_with_len (a + 1) n))) 0) (none a (omega arith) (omega arith))
      ∙ none-found (a + 1) n (λ i le lt. none i (omega arith) (omega arith))

  first-found : (a n k : ℕ) (y : Y) → a ≤ k → k < a + n → ((i : ℕ) → a ≤ i → i < k → f i ≡ None) → f k ≡ Some y → slice_get (filter_map f (range_with_len a n)) 0 ≡ Some y
  first-found a zero k y le lt none is = absurd (omega arith)
  first-found a (suc n) k y le lt none is = elim (cases_eq a k) [
    | inl here ↦ ap (λ (o : Option Y). slice_get (cons_option o (filter_map f (range_with_len (a + 1) n))) 0) (ap f here ∙ is)
    | inr later ↦
        ap (λ (o : Option Y). slice_get (cons_option o (filter_map f (range_with_len (a + 1) n))) 0) (none a (omega arith) (omega arith))
        ∙ first-found (a + 1) n k y (omega arith) (omega arith) (λ i le lt. none i (omega arith) (omega arith)) is
  ]

  -- where no line shows a fault
  pub first_fault_by-none : (n : ℕ) → ((i : ℕ) → i < n → f i ≡ None) → first_fault_by f n ≡ None
  first_fault_by-none n none = none-found 0 n (λ i le lt. none i (omega arith))

  -- where a line shows one, and none before it
  pub first_fault_by-some : (n k : ℕ) (y : Y) → k < n → ((i : ℕ) → i < k → f i ≡ None) → f k ≡ Some y → first_fault_by f n ≡ Some y
  first_fault_by-some n k y lt none is = first-found 0 n k y (omega arith) (omega arith) (λ i le lt. none i lt) is
