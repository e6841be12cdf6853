-- The greatest number of 64 bits: at it sums stay, and as a distance it says that there is no path.
use Rattle.std.specs.Prelude.{ℕ, min, Bool, nat_le}

abbrev pub infinity : ℕ
infinity = 18446744073709551615

-- whether a number has 64 bits
abbrev pub is_number : ℕ → Bool
is_number n = nat_le n infinity

-- a number, or infinity where it is above
abbrev pub capped : ℕ → ℕ
capped n = min n infinity
