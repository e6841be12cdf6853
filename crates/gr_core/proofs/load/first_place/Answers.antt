use Rattle.std.proofs.Common.{◌≡◌, ◌∙◌, Some, ap}
use Rattle.gr_batch.specs.declared.stage.Stage.TheVariants as stage
use Rattle.gr_edges.specs.Vertices.{ids}
use Rattle.gr_log.specs.Log.{log_of}
use Rattle.gr_rules.specs.Grants.{records_after}
use Rattle.gr_cluster.specs.Load.{fresh_host, first_rows, first_arcs}
use Rattle.gr_core.specs.Loaded.{setting_of}
use Rattle.gr_core.proofs.Loaded.{arcs-are}
use Rattle.gr_core.proofs.load.first_place.Goals as goal

pub returns-clause-host : goal.returns-clause-host
returns-clause-host g c =
    let P = g.P.VertexProgram.program_of c.args.program.now in
    let s = setting_of c.args.job.now in
    let es = c.args.graph.now.edges in
    let vs = ids c.args.graph.now.vertices in
    let p = c.args.p in
    let rows = c.in_ok-copies.ensures.copies in
    let arcs : c.in_ok-arcs.arcs.stable ≡ first_arcs P s es vs p = c.in_ok-arcs.ensures.edges ∙ c.as_slice.ensures ∙ c.in_ok-edges.ensures.edges ∙ arcs-are P s es vs p in
    ap Some (c.new.ensures ∙ ap (λ r. fresh_host r c.in_ok-arcs.arcs.stable 0 0 stage.Gather) rows ∙ ap (λ a. fresh_host (first_rows P s es vs p) a 0 0 stage.Gather) arcs)

pub returns-clause-log : goal.returns-clause-log
returns-clause-log g c =
    let P = g.P.VertexProgram.program_of c.args.program.now in
    let s = setting_of c.args.job.now in
    let es = c.args.graph.now.edges in
    let vs = ids c.args.graph.now.vertices in
    let p = c.args.p in
    let edges : c.as_slice-2.result.now ≡ first_arcs P s es vs p = c.as_slice-2.ensures ∙ c.in_ok-edges.ensures.edges ∙ arcs-are P s es vs p in
    c.in_ok-log.ensures ∙ ap (λ r. log_of (records_after r c.as_slice-2.result.now)) c.in_ok-copies.ensures.copies ∙ ap (λ a. log_of (records_after (first_rows P s es vs p) a)) edges
