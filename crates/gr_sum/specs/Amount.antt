-- An amount is a number.
use Rattle.std.specs.Prelude.{ℕ}
use Rattle.gr_sum.specs.declared.amount.Amount.{Amount}

abbrev pub amount : ℕ → Amount
amount n = record { 0 = n }
