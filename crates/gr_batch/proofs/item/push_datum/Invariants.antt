use Rattle.std.proofs.Common.{◌≡◌, ◌++◌, take}
use Rattle.gr_batch.proofs.item.push_datum.Given as goal

abbrev pub invariant-loop-i : goal.invariant-loop-i
invariant-loop-i g l = l.numbers.items ≡ l.fn.numbers.items ++ take l.i (g.D.Datum.numbers_of l.datum)
