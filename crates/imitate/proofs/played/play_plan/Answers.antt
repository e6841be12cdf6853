use Rattle.gr_edges.specs.Vertices.{ids}
use Rattle.gr_core.specs.Loaded.{setting_of}
use Rattle.std.proofs.Common.{sym}
use Rattle.imitate.proofs.Playings.{chosen-run}
use Rattle.imitate.proofs.played.play_plan.Goals as goal

pub returns : goal.returns
returns g c =
    let a = c.args.accepted in
    chosen-run (g.F.Files.seen c.args.files.now) (g.F.Files.seen c.play_chosen.new.files) c.args.trace.now (setting_of a.work.job) a.work.graph.edges (ids a.work.graph.vertices) a.lines
    c.play_chosen.result a.work.job.program c.in_ok-program.program (sym c.in_ok-program.ensures) c.play_chosen.ensures
