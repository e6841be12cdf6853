use Rattle.gr_edges.specs.Vertices.{ids}
use Rattle.gr_copies.specs.Ends.{AreEnds}
use Rattle.gr_copies.proofs.first.first_holders.Given as goal

abbrev pub invariant-loop-p : goal.invariant-loop-p
invariant-loop-p l = AreEnds l.places l.p l.graph.edges l.cut (ids l.vertices) l.sets.items
