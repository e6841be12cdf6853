use Rattle.std.proofs.Common.{◌≡◌}
use Rattle.gr_copies.specs.Granter.{is_retiring}
use Rattle.gr_migrate.proofs.Placed.{parts}
use Rattle.gr_migrate.proofs.RetiredParts.{edges_at}
use Rattle.gr_migrate.proofs.retired.retired_edges.Given as goal

abbrev pub invariant-loop-r : goal.invariant-loop-r
invariant-loop-r l = l.retired ≡ parts (is_retiring l.view) (edges_at l.logs) l.r
