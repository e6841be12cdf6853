use Rattle.std.proofs.Common.{◌≡◌, take}
use Rattle.imitate.specs.Workload.{sum_of}
use Rattle.imitate.proofs.workload.total.Given as goal

abbrev pub invariant-loop-x : goal.invariant-loop-x
invariant-loop-x l = l.total ≡ sum_of (take l.x-index l.values)
