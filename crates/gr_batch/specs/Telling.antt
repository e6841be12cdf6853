-- How values and sums are told.
use Rattle.std.specs.Prelude.{ℕ, List}

-- the numbers that tell a value, and those that tell a sum
pub record Telling (V A : Type 0) : Type 0 where
  pub value_numbers : V → List ℕ
  pub sum_numbers : A → List ℕ

abbrev pub telling : {V A : Type 0} → (V → List ℕ) → (A → List ℕ) → Telling V A
telling values sums = record { value_numbers = values; sum_numbers = sums }
