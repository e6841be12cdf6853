use Rattle.std.proofs.Common.{◌≡◌, ◌∙◌, ◌<◌, length, slice_index, slice_index_or, refl}
use Rattle.std.proofs.lemmas.List.{length-map, get_or-map}
use Rattle.std.proofs.lemmas.List.Elements.{All-push}
use Rattle.gr_base.specs.declared.records.Edge.{Edge}
use Rattle.gr_edges.specs.declared.graph.VertexInfo.{VertexInfo}
use Rattle.gr_edges.specs.Vertices.{ids, id_of}
use Rattle.gr_uncut.specs.Index.{arc_of, with_id}
use Rattle.gr_uncut.proofs.Positions.{maps-more}
use Rattle.gr_uncut.proofs.Indexed.{arc-told}
use Rattle.gr_uncut.proofs.ends.ends_of.Goals as goal

pub loop-edge-preserved : goal.loop-edge-preserved
loop-edge-preserved c =
    let es = c.args.graph.now.edges in
    let vertices = c.args.graph.now.vertices in
    let vs = ids vertices in
    let none : Edge = record { src = 0; dst = 0; weight = 0 } in
    let vertex : VertexInfo = record { id = 0; indeg = 0; outdeg = 0 } in
    let i = c.loop-edge.edge-index in
    let inv = c.loop-edge.invariant in
    let lt : i < length es = rw (← c.as_slice-edge-items.ensures) c.loop-edge-test.true in
    let count = length-map vertices id_of in
    let source = c.position_of-source.result in
    let target = c.position_of-target.result in
    let source_in : source < length vertices = rw (← c.as_slice-vertices.ensures) c.position_of-source.ensures.within in
    let target_in : target < length vertices = rw (← c.as_slice-vertices.ensures) c.position_of-target.ensures.within in
    let source_is : slice_index vs source ≡ (slice_index_or es i none).src = get_or-map id_of vertices source vertex 0 source_in ∙ rw (← c.as_slice-vertices.ensures, ← c.as_slice-edge-items.ensures) (c.position_of-source.ensures.found vertex) in
    let target_is : slice_index vs target ≡ (slice_index_or es i none).dst = get_or-map id_of vertices target vertex 0 target_in ∙ rw (← c.as_slice-vertices.ensures, ← c.as_slice-edge-items.ensures) (c.position_of-target.ensures.found vertex) in
    record {
      sources = rw c.in_ok-push.ensures.ok (record {
        within = All-push (λ k. k < length vs) c.loop-edge.sources source inv.sources.within (rw count source_in);
        at = maps-more (slice_index vs) (λ e. e.src) c.loop-edge.sources es i source none lt inv.sources.at source_is;
      });
      targets = rw c.in_ok-push-2.ensures.ok (record {
        within = All-push (λ k. k < length vs) c.loop-edge.targets target inv.targets.within (rw count target_in);
        at = maps-more (slice_index vs) (λ e. e.dst) c.loop-edge.targets es i target none lt inv.targets.at target_is;
      });
      arcs = rw c.in_ok-push-3.ensures.ok (record {
        within = All-push (λ a. a.source < length vs) c.loop-edge.arcs _ inv.arcs.within (rw count source_in);
        at = maps-more (with_id vs) (arc_of es) c.loop-edge.arcs es i _ none lt inv.arcs.at
            (rw (c.as_slice-vertices.ensures, c.as_slice-edge-items.ensures) (arc-told es vertices source _ _ (slice_index_or es i none) vertex source_in c.vertex_count-count.ensures.degrees source_is refl refl));
      });
    }
