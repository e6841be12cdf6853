use Rattle.std.proofs.Common.{◌-◌, ◌≤◌, length}
use Rattle.gr_arcs.proofs.index.count_through.Given as goal

abbrev pub invariant-loop-at : goal.invariant-loop-at
invariant-loop-at l = l.at ≤ length l.index

abbrev pub decreases-loop-at : goal.decreases-loop-at
decreases-loop-at l = l.few - l.at
