use Rattle.std.proofs.Common.{◌∙◌, ap, ◌%◌}
use Rattle.gr_cut.specs.Cut.{edge_place, is_high, home}
use Rattle.gr_cut.proofs.place_edges.place_of.Goals as goal

pub returns-clause-place : goal.returns-clause-place
returns-clause-place c =
    let e = c.args.edge in
    let degree = rw c.as_slice.ensures at c.in_degree-indeg.ensures c.args.graph.now.edges in
    c.edge_place.ensures
    ∙ ap (λ n. edge_place (e.src % n) (e.dst % n) c.is_high.result) c.from-places.ensures
    ∙ ap (edge_place (home c.args.places e.src) (home c.args.places e.dst)) (c.is_high.ensures ∙ ap (is_high c.args.theta) (degree c.vertex_count-count.ensures.degrees))
