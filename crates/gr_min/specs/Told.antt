-- The text of a number that may be infinite.
use Rattle.std.specs.Prelude.{ℕ, ◌==◌, List, if◌then◌else◌, codes, decimal}
use Rattle.gr_sum.specs.Infinity.{infinity}

abbrev pub told : ℕ → List ℕ
told n = if n == infinity then codes "inf" else decimal n
