use Rattle.std.proofs.Common.{◌≡◌, not}
use Rattle.std.specs.Prelude.{◌&&◌, ◌||◌}
use Rattle.std.specs.List.{filter}
use Rattle.gr_base.specs.Rising.{has}
use Rattle.gr_base.specs.Places.{below}
use Rattle.gr_copies.specs.Granter.{is_retiring}
use Rattle.gr_migrate.proofs.grant.new_holders.Given as goal

abbrev pub invariant-loop-p : goal.invariant-loop-p
invariant-loop-p l = l.places ≡ filter (λ q. (has l.fn.holders q && not (is_retiring l.view q)) || has l.fn.askers q) (below l.p)
