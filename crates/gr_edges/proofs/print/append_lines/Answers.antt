use Rattle.std.proofs.Common.{◌≡◌, ℕ, ◌<◌, ◌^◌, List, ◌++◌, take, ap, ◌∙◌, append_assoc}
use Rattle.std.specs.List.{flat_map}
use Rattle.std.proofs.lemmas.List.Elements.{All-more}
use Rattle.gr_base.specs.declared.records.Edge.{Edge}
use Rattle.gr_edges.specs.declared.graph.VertexInfo.{VertexInfo}
use Rattle.gr_edges.specs.Text.{vertex_line, edge_line, Has32Bits}
use Rattle.gr_edges.proofs.Appending.{lines-more, front-front}
use Rattle.gr_edges.proofs.print.append_lines.Goals as goal

pub returns-in_err-append_vertex-clause-front : goal.returns-in_err-append_vertex-clause-front
returns-in_err-append_vertex-clause-front c =
    let done = flat_map vertex_line (take c.loop-v.v-index c.as_slice-v-items.result.now) in
    front-front c.args.into.now.items done c.loop-v.into.items c.append_vertex.new.into.items c.loop-v.invariant.lines c.append_vertex.ensures.front

pub loop-v-preserved : goal.loop-v-preserved
loop-v-preserved c =
    let vs = c.as_slice-v-items.result.now in
    let d : VertexInfo = record { id = 0; indeg = 0; outdeg = 0 } in
    record {
      lines = lines-more vertex_line c.args.into.now.items c.loop-v.into.items c.append_vertex.new.into.items vs c.loop-v.v-index d c.loop-v-test.true c.loop-v.invariant.lines c.in_ok-append_vertex.ensures.ok;
      small = All-more (λ v. v.id < 2 ^ 32) vs c.loop-v.v-index d c.loop-v-test.true c.loop-v.invariant.small c.append_vertex.ensures.small;
    }

pub returns-in_err-append_edge-clause-front : goal.returns-in_err-append_edge-clause-front
returns-in_err-append_edge-clause-front c =
    let vertices = flat_map vertex_line (take c.loop-v.v-index c.as_slice-v-items.result.now) in
    let edges = flat_map edge_line (take c.loop-e.e-index c.as_slice-e-items.result.now) in
    let lines : c.loop-e.into.items ≡ c.args.into.now.items ++ (vertices ++ edges) =
    c.loop-e.invariant.lines ∙ ap (λ (l : List ℕ). l ++ edges) c.loop-v.invariant.lines ∙ append_assoc c.args.into.now.items vertices edges in
    front-front c.args.into.now.items (vertices ++ edges) c.loop-e.into.items c.append_edge.new.into.items lines c.append_edge.ensures.front

pub loop-e-preserved : goal.loop-e-preserved
loop-e-preserved c =
    let es = c.as_slice-e-items.result.now in
    let d : Edge = record { src = 0; dst = 0; weight = 0 } in
    record {
      lines = lines-more edge_line c.loop-v.into.items c.loop-e.into.items c.append_edge.new.into.items es c.loop-e.e-index d c.loop-e-test.true c.loop-e.invariant.lines c.in_ok-append_edge.ensures.ok;
      small = All-more Has32Bits es c.loop-e.e-index d c.loop-e-test.true c.loop-e.invariant.small c.append_edge.ensures.small;
    }
