use Rattle.std.proofs.Common.{◌≡◌, map, take}
use Rattle.gr_edges.specs.Vertices.{ids, vertex_of}
use Rattle.gr_edges.proofs.build.count_degrees.Given as goal

abbrev pub invariant-loop-edge : goal.invariant-loop-edge
invariant-loop-edge l = l.vertices ≡ map (vertex_of (take l.edge-index l.edges)) (ids l.fn.vertices)
