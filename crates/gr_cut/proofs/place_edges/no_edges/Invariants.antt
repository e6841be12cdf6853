use Rattle.std.proofs.Common.{◌≡◌, replicate, []}
use Rattle.gr_cut.proofs.place_edges.no_edges.Given as goal

abbrev pub invariant-loop-p : goal.invariant-loop-p
invariant-loop-p l = l.rows.items ≡ replicate l.p []
