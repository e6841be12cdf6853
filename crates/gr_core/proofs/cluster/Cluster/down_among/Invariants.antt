use Rattle.std.proofs.Common.{◌≡◌}
use Rattle.gr_cluster.specs.Tables.{is_up}
use Rattle.gr_core.proofs.Down.{left_below}
use Rattle.gr_core.proofs.cluster.Cluster.down_among.Given as goal

abbrev pub invariant-loop-p : goal.invariant-loop-p
invariant-loop-p g l = l.down ≡ left_below (is_up l.self.cluster) l.p l.fn.places
