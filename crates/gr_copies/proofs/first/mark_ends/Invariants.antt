use Rattle.std.proofs.Common.{take}
use Rattle.gr_edges.specs.Vertices.{ids}
use Rattle.gr_copies.specs.Ends.{is_end, IsMarked}
use Rattle.gr_copies.proofs.first.mark_ends.Given as goal

abbrev pub invariant-loop-number : goal.invariant-loop-number
invariant-loop-number l = IsMarked (ids l.vertices) l.p (is_end l.edges (take l.number-index l.numbers)) l.initial.sets l.sets
