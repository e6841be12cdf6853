use Rattle.std.proofs.Common.{◌≡◌}
use Rattle.gr_core.proofs.Results.{merged_below}
use Rattle.gr_core.proofs.cluster.Cluster.results.Given as goal

abbrev pub invariant-loop-p : goal.invariant-loop-p
invariant-loop-p g l = l.values ≡ merged_below l.self.cluster l.p
