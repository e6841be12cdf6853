use Rattle.std.proofs.Common.{◌≡◌, length}
use Rattle.gr_batch.proofs.Items.{Reads}
use Rattle.gr_batch.proofs.reading.items_told.Given as goal

abbrev pub invariant-loop-i : goal.invariant-loop-i
invariant-loop-i g l = record { count : length l.items ≡ l.i; so_far : Reads g.I.Item.told g.I.Item.key g.I.Item.Fits l.numbers l.items l.rest l.least }
