use Rattle.std.proofs.Common.{◌≡◌, ◌∙◌, ◌+◌, ◌∷◌, [], ◌++◌, Some, map, ap, sym, arith}
use Rattle.std.proofs.lemmas.List.FromFn.{map-range_with_len_more}
use Rattle.gr_base.specs.Places.{below}
use Rattle.gr_edges.specs.Vertices.{ids}
use Rattle.gr_cluster.specs.Load.{first_host, first_log}
use Rattle.gr_core.specs.Loaded.{setting_of}
use Rattle.gr_core.proofs.load.first_places.Goals as goal

pub loop-p-preserved : goal.loop-p-preserved
loop-p-preserved g c =
    let P = g.P.VertexProgram.program_of c.args.program.now in
    let s = setting_of c.args.job.now in
    let es = c.args.graph.now.edges in
    let vs = ids c.args.graph.now.vertices in
    let p = c.loop-p.p in
    let start : 0 + p ≡ p = omega arith in
    record {
      hosts = c.in_ok-push.ensures.items ∙ ap (λ l. l ++ Some c.in_ok-host.host ∷ []) c.loop-p.invariant.hosts
          ∙ ap (λ h. map (first_host P s es vs) (below p) ++ h ∷ []) c.in_ok-host.ensures.host ∙ sym (map-range_with_len_more (first_host P s es vs) 0 p p start);
      logs = c.in_ok-push-2.ensures.items ∙ ap (λ l. l ++ c.in_ok-host.log ∷ []) c.loop-p.invariant.logs
          ∙ ap (λ h. map (first_log P s es vs) (below p) ++ h ∷ []) c.in_ok-host.ensures.log ∙ sym (map-range_with_len_more (first_log P s es vs) 0 p p start);
    }
