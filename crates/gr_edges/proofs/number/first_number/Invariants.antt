use Rattle.std.proofs.Common.{◌≡◌, ℕ, ◌^◌, ◌<◌, take, get_or}
use Rattle.std.specs.Char.{IsAsciiDigit}
use Rattle.std.specs.Str.Parse.{digits_value}
use Rattle.gr_edges.proofs.number.first_number.Given as goal

abbrev pub invariant-loop-i : goal.invariant-loop-i
invariant-loop-i l = record {
  value : digits_value 10 (take l.i l.text) ≡ l.value;
  small : l.value < 2 ^ 32;
  digits : (k : ℕ) → k < l.i → IsAsciiDigit (get_or l.text k 0);
}
