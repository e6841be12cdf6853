use Rattle.std.proofs.Common.{map, take}
use Rattle.gr_edges.specs.Vertices.{ids}
use Rattle.gr_uncut.specs.Index.{AreArcs, ArePositions}
use Rattle.gr_uncut.proofs.ends.ends_of.Given as goal

abbrev pub invariant-loop-edge : goal.invariant-loop-edge
invariant-loop-edge l = record {
  sources : ArePositions (ids l.graph.vertices) l.sources (map (λ e. e.src) (take l.edge-index l.graph.edges));
  targets : ArePositions (ids l.graph.vertices) l.targets (map (λ e. e.dst) (take l.edge-index l.graph.edges));
  arcs : AreArcs (ids l.graph.vertices) l.graph.edges l.arcs (take l.edge-index l.graph.edges);
}
