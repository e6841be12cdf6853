use Rattle.std.proofs.Common.{◌≡◌, map, take}
use Rattle.gr_core.proofs.Edges.{numbered_at}
use Rattle.gr_core.proofs.load.first_edges.Given as goal

abbrev pub invariant-loop-number : goal.invariant-loop-number
invariant-loop-number l = l.edges ≡ map (numbered_at l.graph.edges) (take l.number-index l.number-items)
