use Rattle.std.proofs.Common.{◌≡◌, map}
use Rattle.gr_base.specs.Places.{below}
use Rattle.gr_edges.specs.Vertices.{ids}
use Rattle.gr_cluster.specs.Load.{first_host, first_log}
use Rattle.gr_core.specs.Loaded.{setting_of}
use Rattle.gr_core.proofs.load.first_places.Given as goal

abbrev pub invariant-loop-p : goal.invariant-loop-p
invariant-loop-p g l = record {
  hosts : l.hosts.items ≡ map (first_host (g.P.VertexProgram.program_of l.program) (setting_of l.job) l.graph.edges (ids l.graph.vertices)) (below l.p);
  logs : l.logs.items ≡ map (first_log (g.P.VertexProgram.program_of l.program) (setting_of l.job) l.graph.edges (ids l.graph.vertices)) (below l.p);
}
