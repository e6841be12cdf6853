-- A distance and the vertex before it on a path are told together.
use Rattle.std.specs.Prelude.{◌≡◌, ℕ, ◌==◌, ◌&&◌, nat_lt, true}
use Rattle.std.proofs.Common.{arith}
use Rattle.std.proofs.lemmas.Bool.Decides.{nat_tests}
use Rattle.gr_sum.specs.Infinity.{infinity}

-- one is infinite exactly where the other is
abbrev pub AreTogether : ℕ → ℕ → Type 0
AreTogether distance parent = (distance == infinity) ≡ (parent == infinity)

pub both_finite : (distance parent : ℕ) → (nat_lt distance infinity && nat_lt parent infinity) ≡ true → AreTogether distance parent
both_finite d p h = grind (arith, nat_tests)
