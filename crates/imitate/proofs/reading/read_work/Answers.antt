use Rattle.std.proofs.Common.{◌<◌, ◌^◌}
use Rattle.std.proofs.lemmas.List.Elements.{recursion_from_All}
use Rattle.gr_lists.proofs.Maps.{Each-map}
use Rattle.gr_edges.specs.declared.graph.VertexInfo.{VertexInfo}
use Rattle.gr_edges.specs.Vertices.{id_of}
use Rattle.gr_job.specs.Values.{values_of}
use Rattle.imitate.proofs.Readings.{task-job_refused, task-graph_refused, task-read}
use Rattle.imitate.proofs.reading.read_work.Goals as goal

pub returns-in-Err-clause-refused : goal.returns-in-Err-clause-refused
returns-in-Err-clause-refused c = rw c.of_job.ensures (task-job_refused c.args.graph.now c.args.job.now c.in-Err.fault c.in-Err.ensures.refused)

pub returns-in-Err-read_graph-clause-refused : goal.returns-in-Err-read_graph-clause-refused
returns-in-Err-read_graph-clause-refused c =
    rw c.of_graph.ensures (task-graph_refused c.args.graph.now c.args.job.now (values_of c.in-Ok.job) c.in-Ok.ensures.ok c.in-Err-read_graph.fault c.in-Err-read_graph.ensures.refused)

pub returns-clause-read : goal.returns-clause-read
returns-clause-read c =
    task-read c.args.graph.now c.args.job.now (values_of c.in-Ok.job) c.in-Ok.ensures.ok c.in-Ok-read_graph.graph.edges c.in-Ok-read_graph.graph.vertices
    c.in-Ok-read_graph.ensures.accepted c.in-Ok-read_graph.ensures.edges c.in-Ok-read_graph.ensures.vertices

pub returns-clause-ids_fit : goal.returns-clause-ids_fit
returns-clause-ids_fit c =
    let graph = c.in-Ok-read_graph.graph in
    Each-map (λ v. v < 2 ^ 32) id_of graph.vertices (recursion_from_All (λ (v : VertexInfo). v.id < 2 ^ 32) graph.vertices graph.small)
