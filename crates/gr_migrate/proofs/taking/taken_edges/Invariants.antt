use Rattle.std.proofs.Common.{◌≡◌, map, take}
use Rattle.std.specs.List.{filter}
use Rattle.gr_rules.specs.Taken.{goes_to}
use Rattle.gr_migrate.proofs.taking.taken_edges.Given as goal

abbrev pub invariant-loop-edge : goal.invariant-loop-edge
invariant-loop-edge l = l.taken ≡ map (λ x. x.arc) (filter (goes_to l.view l.me) (take l.edge-index l.retired))
