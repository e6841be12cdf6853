use Rattle.std.proofs.Common.{◌≡◌}
use Rattle.std.specs.Prelude.{◌||◌}
use Rattle.std.specs.List.{filter}
use Rattle.gr_base.specs.Rising.{has}
use Rattle.gr_base.specs.Places.{below}
use Rattle.gr_repair.proofs.grant.either.Given as goal

abbrev pub invariant-loop-p : goal.invariant-loop-p
invariant-loop-p l = l.both ≡ filter (λ q. has l.left q || has l.right q) (below l.p)
