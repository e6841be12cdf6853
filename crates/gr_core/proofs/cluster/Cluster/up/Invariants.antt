use Rattle.std.proofs.Common.{◌≡◌, filter}
use Rattle.gr_base.specs.Places.{below}
use Rattle.gr_cluster.specs.Tables.{is_up}
use Rattle.gr_core.proofs.cluster.Cluster.up.Given as goal

abbrev pub invariant-loop-p : goal.invariant-loop-p
invariant-loop-p g l = l.up ≡ filter (is_up l.self.cluster) (below l.p)
