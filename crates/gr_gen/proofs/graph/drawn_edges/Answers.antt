use Rattle.std.proofs.Common.{◌≡◌, ◌++◌, ◌∷◌, [], sym, ◌∙◌, arith}
use Rattle.std.proofs.lemmas.List.FromFn.{map-range_with_len_more}
use Rattle.gr_gen.specs.Generated.{edge_of}
use Rattle.gr_gen.proofs.Drawing.{state-after_edge, edge-drawn}
use Rattle.gr_gen.proofs.graph.drawn_edges.Goals as goal

pub loop-i-preserved : goal.loop-i-preserved
loop-i-preserved c =
    let seed = c.args.seed in
    let i = c.loop-i.i in
    let vertices = c.vertex_count-vertices.result in
    let is : c.edge_by.result ≡ edge_of seed vertices i = edge-drawn seed i c.loop-i.draws.state c.draw-source.new.self.state c.draw-target.new.self.state c.loop-i.invariant.state c.draw-source.ensures.state c.draw-target.ensures.state vertices c.draw-source.result c.draw-target.result c.edge_by.result c.draw-source.ensures.draw c.draw-target.ensures.draw c.edge_by.ensures in
    record {
      edges = c.in_ok-push.ensures.ok ∙ (λ t. c.loop-i.invariant.edges t ++ is t ∷ []) ∙ sym (map-range_with_len_more (edge_of seed vertices) 0 i i (omega arith));
      state = state-after_edge seed i c.loop-i.draws.state c.draw-source.new.self.state c.draw-target.new.self.state c.loop-i.invariant.state c.draw-source.ensures.state c.draw-target.ensures.state;
    }
