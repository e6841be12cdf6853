use Rattle.std.proofs.Common.{◌≡◌, take}
use Rattle.gr_rebirth.proofs.spare.arcs_of.Given as goal

abbrev pub invariant-loop-edge : goal.invariant-loop-edge
invariant-loop-edge l = l.arcs.pending ≡ take l.edge-index l.edges
