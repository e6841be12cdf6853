-- The lesser of two numbers.
use Rattle.std.specs.Prelude.{◌≡◌, ℕ, ◌<◌, ◌^◌, min, Bool, true, false, IsTrue, if◌then◌else◌, refl}
use Rattle.std.proofs.Common.{arith}
use Rattle.std.proofs.lemmas.Bool.Decides.{nat_tests}
use Rattle.gr_sum.specs.Infinity.{infinity, is_number}

pub min-kept : (a b : ℕ) → IsTrue (is_number a) → IsTrue (is_number (min a b))
min-kept a b h = grind (arith, nat_tests)

pub start-kept : (b : Bool) → IsTrue (is_number (if b then 0 else infinity))
start-kept true = refl
start-kept false = refl

pub id-kept : (v : ℕ) → v < 2 ^ 32 → IsTrue (is_number v)
id-kept v h = grind (arith, nat_tests)

pub infinity-min : (a : ℕ) → IsTrue (is_number a) → min infinity a ≡ a
infinity-min a h = grind (arith, nat_tests)

pub min-assoc : (a b c : ℕ) → min (min a b) c ≡ min a (min b c)
min-assoc a b c = omega arith

pub min-comm : (a b : ℕ) → min a b ≡ min b a
min-comm a b = omega arith
