use Rattle.std.proofs.Common.{◌≡◌, ◌≤◌, ◌+◌, ◌-◌, ◌++◌, length, drop}
use Rattle.gr_base.specs.Rising.{union}
use Rattle.gr_signal.proofs.take.union_of.Given as goal

abbrev pub invariant-merge : goal.invariant-merge
invariant-merge l = record {
  left_within : l.i ≤ length l.left;
  right_within : l.j ≤ length l.right;
  rest : l.all ++ union (drop l.i l.left) (drop l.j l.right) ≡ union l.left l.right;
}

abbrev pub decreases-merge : goal.decreases-merge
decreases-merge l = (length l.left - l.i) + (length l.right - l.j)
