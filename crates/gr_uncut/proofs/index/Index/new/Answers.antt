use Rattle.std.proofs.Common.{◌∙◌, ◌+◌, ap, sym, arith}
use Rattle.std.proofs.lemmas.List.{length-map}
use Rattle.gr_base.proofs.Rising.{keys-rise}
use Rattle.gr_edges.specs.Vertices.{ids, id_of}
use Rattle.gr_uncut.proofs.Indexed.{arcs-in_row, targets-in_row}
use Rattle.gr_uncut.proofs.index.Index.new.Goals as goal

pub returns : goal.returns
returns c =
    let es = c.args.graph.now.edges in
    let vertices = c.args.graph.now.vertices in
    let vs = ids vertices in
    let ends = c.in_ok-ends in
    let count = length-map vertices id_of in
    let rise = keys-rise id_of vertices c.vertex_count-count.ensures.rise in
    record {
      incoming = c.in_ok-incoming.ensures.count ∙ ap (λ n. n + 1) (c.vertex_count-count.ensures.count ∙ sym count);
      outgoing = c.in_ok-outgoing.ensures.count ∙ ap (λ n. n + 1) (c.vertex_count-count.ensures.count ∙ sym count);
      arcs = λ k lt. rw (c.in_ok-incoming.ensures.rows k (omega arith), c.as_slice-targets.ensures, c.as_slice.ensures) (arcs-in_row vs es rise ends.ends.targets ends.ends.arcs k ends.ensures.targets ends.ensures.arcs lt);
      targets = λ k lt. rw (c.in_ok-outgoing.ensures.rows k (omega arith), c.as_slice-sources.ensures, c.as_slice-targets.ensures) (targets-in_row vs es rise ends.ends.sources ends.ends.targets k ends.ensures.sources ends.ensures.targets lt);
    }
