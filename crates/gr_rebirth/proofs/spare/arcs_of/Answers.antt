use Rattle.std.proofs.Common.{◌∙◌, ap}
use Rattle.std.specs.Prelude.{is_some}
use Rattle.gr_base.specs.Rising.{with_item}
use Rattle.gr_arcs.specs.Layers.{EdgeLayers, number_of}
use Rattle.gr_rebirth.proofs.Next.{with_item-next, find-next}
use Rattle.gr_rebirth.proofs.spare.arcs_of.Goals as goal

pub stage_edge-requires : goal.stage_edge-requires
stage_edge-requires c =
    record { fresh = rw c.loop-edge.invariant (ap is_some (find-next number_of c.args.edges.now c.loop-edge.edge-index _ c.requires c.loop-edge-test.true)) }

pub loop-edge-preserved : goal.loop-edge-preserved
loop-edge-preserved c =
    ap (λ (a : EdgeLayers). a.pending) c.in_ok-stage_edge.ensures.ok ∙ ap (with_item number_of _) c.loop-edge.invariant
    ∙ with_item-next number_of c.args.edges.now c.loop-edge.edge-index _ c.requires c.loop-edge-test.true
