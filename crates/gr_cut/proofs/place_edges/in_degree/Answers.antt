use Rattle.std.proofs.Common.{◌∙◌, ap}
use Rattle.gr_base.specs.Degrees.{indegree}
use Rattle.gr_edges.specs.declared.graph.VertexInfo.{VertexInfo}
use Rattle.gr_cut.proofs.place_edges.in_degree.Goals as goal

pub returns : goal.returns
returns c = λ es degrees.
    let none : VertexInfo = record { id = 0; indeg = 0; outdeg = 0 } in
    let at = c.position_of-at.ensures in
    (degrees c.position_of-at.result none at.within).indeg ∙ ap (indegree es) (at.found none)
