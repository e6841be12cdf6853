-- The laws of adding amounts.
use Rattle.std.specs.Prelude.{◌≡◌, ℕ, ◌/◌, ◌<◌, Bool, true, false, nat_eq, if◌then◌else◌, IsTrue, refl}
use Rattle.std.proofs.Common.{ap, arith}
use Rattle.std.proofs.Math.Nat.{div-le_self}
use Rattle.std.proofs.lemmas.Bool.{eqb-true, not-false}
use Rattle.std.proofs.lemmas.Bool.Decides.{nat_tests}
use Rattle.gr_sum.specs.declared.amount.Amount.{Amount}
use Rattle.gr_sum.specs.Amount.{amount}
use Rattle.gr_sum.specs.Infinity.{is_number}
use Rattle.gr_sum.specs.Laws.Capped.{capped_sum-assoc, capped_sum-comm, capped_sum-unit}
use Rattle.gr_sum.specs.Sums.{is_amount, added, differs}

pub added-assoc : (a b c : Amount) → added (added a b) c ≡ added a (added b c)
added-assoc a b c = ap amount (capped_sum-assoc a.0 b.0 c.0)

pub added-comm : (a b : Amount) → added a b ≡ added b a
added-comm a b = ap amount (capped_sum-comm a.0 b.0)

pub added-unit : (a : Amount) → IsTrue (is_amount a) → added (amount 0) a ≡ a
added-unit a h = ap amount (capped_sum-unit a.0 h)

pub divided-kept : (n d : ℕ) → IsTrue (is_number n) → 0 < d → IsTrue (is_number (n / d))
divided-kept n d h some = let le = div-le_self n d in grind (arith, nat_tests)

pub same_from_differs : (x y : Amount) → differs x y ≡ false → x ≡ y
same_from_differs x y h = ap amount (eqb-true x.0 y.0 (not-false (nat_eq x.0 y.0) h))

pub choice-kept : (b : Bool) → IsTrue (is_number (if b then 1 else 0))
choice-kept true = refl
choice-kept false = refl
