use Rattle.std.proofs.Common.{◌≡◌, ◌*◌, map}
use Rattle.std.specs.List.{range_with_len}
use Rattle.gr_gen.specs.Draws.{state_after}
use Rattle.gr_gen.specs.Generated.{edge_of}
use Rattle.gr_gen.proofs.graph.drawn_edges.Given as goal

abbrev pub invariant-loop-i : goal.invariant-loop-i
invariant-loop-i l = record {
  edges : l.edges ≡ map (edge_of l.seed l.vertices) (range_with_len 0 l.i);
  state : l.draws.state ≡ state_after l.seed (2 * l.i);
}
