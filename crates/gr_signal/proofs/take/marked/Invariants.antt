use Rattle.std.proofs.Common.{◌≡◌, take}
use Rattle.gr_signal.proofs.Marks.{marked_in}
use Rattle.gr_signal.proofs.take.marked.Given as goal

abbrev pub invariant-loop-line : goal.invariant-loop-line
invariant-loop-line g l = l.marked ≡ marked_in (take l.line-index l.body)
