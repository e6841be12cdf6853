-- What the programs that add have in common: amounts, joined by their sum, which stays at infinity.
use Rattle.std.specs.Prelude.{◌+◌, Bool, not, nat_eq}
use Rattle.gr_sum.specs.declared.amount.Amount.{Amount}
use Rattle.gr_sum.specs.Amount.{amount}
use Rattle.gr_sum.specs.Infinity.{is_number, capped}

-- every amount of 64 bits is a value and a sum
abbrev pub is_amount : Amount → Bool
is_amount a = is_number a.0

abbrev pub added : Amount → Amount → Amount
added a b = amount (capped (a.0 + b.0))

-- whether a change is one
abbrev pub differs : Amount → Amount → Bool
differs x y = not (nat_eq x.0 y.0)
