use Rattle.std.proofs.Common.{◌≡◌, map}
use Rattle.gr_base.specs.Places.{below}
use Rattle.gr_core.specs.Decided.{spare_at}
use Rattle.gr_core.proofs.cluster.spares.spares.Given as goal

abbrev pub invariant-loop-p : goal.invariant-loop-p
invariant-loop-p g l = l.spares.items ≡ map (spare_at l.reborn l.epoch l.commits l.logs) (below l.p)
