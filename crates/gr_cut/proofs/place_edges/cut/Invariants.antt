use Rattle.std.proofs.Common.{◌≡◌, take}
use Rattle.gr_cut.specs.Cut.{place_at_load}
use Rattle.gr_cut.proofs.Rows.{rows}
use Rattle.gr_cut.proofs.place_edges.cut.Given as goal

abbrev pub invariant-loop-i : goal.invariant-loop-i
invariant-loop-i l = l.rows.items ≡ rows (place_at_load l.places l.theta l.graph.edges) l.places (take l.i l.graph.edges)
