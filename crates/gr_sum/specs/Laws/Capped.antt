-- Sums that stay at infinity.
use Rattle.std.specs.Prelude.{◌≡◌, ℕ, ◌+◌, IsTrue}
use Rattle.std.proofs.Common.{arith}
use Rattle.std.proofs.lemmas.Bool.Decides.{nat_tests}
use Rattle.gr_sum.specs.Infinity.{is_number, capped}

pub capped-kept : (n : ℕ) → IsTrue (is_number (capped n))
capped-kept n = grind (arith, nat_tests)

pub capped_sum-assoc : (a b c : ℕ) → capped (capped (a + b) + c) ≡ capped (a + capped (b + c))
capped_sum-assoc a b c = omega arith

pub capped_sum-comm : (a b : ℕ) → capped (a + b) ≡ capped (b + a)
capped_sum-comm a b = omega arith

pub capped_sum-unit : (a : ℕ) → IsTrue (is_number a) → capped (0 + a) ≡ a
capped_sum-unit a h = grind (arith, nat_tests)
