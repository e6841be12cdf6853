use Rattle.std.proofs.Common.{◌≡◌, map, take, filter}
use Rattle.gr_base.specs.Rising.{has}
use Rattle.gr_edges.specs.Vertices.{ids}
use Rattle.gr_copies.specs.Holders.{first_holders}
use Rattle.gr_cluster.specs.Load.{first_copy}
use Rattle.gr_core.specs.Loaded.{setting_of}
use Rattle.gr_core.proofs.load.first_copies.Given as goal

abbrev pub invariant-loop-k : goal.invariant-loop-k
invariant-loop-k g l =
    let vs = ids l.graph.vertices in
    let es = l.graph.edges in
    l.rows.pending ≡ map (first_copy (g.P.VertexProgram.program_of l.program) (setting_of l.job) es vs l.p) (filter (λ v. has (first_holders l.job.places l.job.theta l.job.losses es v) l.p) (take l.k vs))
