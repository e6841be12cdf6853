-- Fields that lists of numbers begin with.
use Rattle.std.proofs.Common.{◌≢◌, ℕ, Bool, true, false, cond, List, ◌∷◌, ◌++◌, Some, None}
use Rattle.std.specs.Prelude.{⊤}
use Rattle.gr_batch.specs.CopyNumbers.{value_told}
use Rattle.gr_batch.specs.Reading.{HasNoFront}

-- where no mark stands first, no value does
pub no-value : {V : Type 0} (value_numbers : V → List ℕ) (numbers : List ℕ) → ((b : Bool) (rest : List ℕ) → numbers ≢ cond b 1 0 ∷ rest) → HasNoFront (value_told value_numbers) (λ _. ⊤) numbers
no-value f numbers none None others fits e = none false others e
no-value f numbers none (Some x) others fits e = none true (f x ++ others) e
