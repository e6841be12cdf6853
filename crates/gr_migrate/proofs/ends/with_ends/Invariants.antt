use Rattle.std.proofs.Common.{◌≡◌, take, filter_map}
use Rattle.gr_migrate.specs.Ends.{ends_among}
use Rattle.gr_migrate.proofs.ends.with_ends.Given as goal

abbrev pub invariant-loop-arc : goal.invariant-loop-arc
invariant-loop-arc l = l.edges ≡ filter_map (ends_among l.fn.entries) (take l.arc-index l.arcs)
