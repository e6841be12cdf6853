use Rattle.std.proofs.Common.{◌∙◌, eqb, List, ap}
use Rattle.std.specs.List.{filter}
use Rattle.gr_base.specs.declared.records.NumberedEdge.{NumberedEdge}
use Rattle.gr_arcs.specs.Index.{IsLaidOut}
use Rattle.gr_arcs.proofs.arcs.Arcs.edges_into.Goals as goal

pub returns-clause-edges : goal.returns-clause-edges
unfolding IsLaidOut
returns-clause-edges c =
    let those = λ (l : List NumberedEdge). filter (λ e. eqb e.edge.dst c.args.v) l in
    c.edges_at.ensures ∙ (ap those c.as_slice.ensures.value ∙ (c.self.invariant.laid_out.targets.same c.args.v ∙ ap (λ a. those a.stable) c.self.view_is))
