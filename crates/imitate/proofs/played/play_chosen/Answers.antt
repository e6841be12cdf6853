use Rattle.gr_edges.specs.Vertices.{ids}
use Rattle.gr_job.specs.declared.job.ProgramChoice.TheVariants as choice
use Rattle.gr_core.specs.Loaded.{setting_of}
use Rattle.imitate.proofs.Playings.{chosen-run}
use Rattle.imitate.proofs.played.play_chosen.Goals as goal

pub returns-in-Shortest : goal.returns-in-Shortest
returns-in-Shortest g c =
    let a = c.args.accepted in
    chosen-run (g.F.Files.seen c.args.files.now) (g.F.Files.seen c.play_program.new.files) c.args.trace.now (setting_of a.work.job) a.work.graph.edges (ids a.work.graph.vertices) a.lines
    c.play_program.result c.args.program (choice.Shortest c.in-Shortest.source) c.in-Shortest.is c.play_program.ensures

pub returns-in-Hops : goal.returns-in-Hops
returns-in-Hops g c =
    let a = c.args.accepted in
    chosen-run (g.F.Files.seen c.args.files.now) (g.F.Files.seen c.play_program-in-Hops.new.files) c.args.trace.now (setting_of a.work.job) a.work.graph.edges (ids a.work.graph.vertices) a.lines
    c.play_program-in-Hops.result c.args.program (choice.Hops c.in-Hops.source) c.in-Hops.is c.play_program-in-Hops.ensures

pub returns-in-Labels : goal.returns-in-Labels
returns-in-Labels g c =
    let a = c.args.accepted in
    chosen-run (g.F.Files.seen c.args.files.now) (g.F.Files.seen c.play_program-in-Labels.new.files) c.args.trace.now (setting_of a.work.job) a.work.graph.edges (ids a.work.graph.vertices) a.lines
    c.play_program-in-Labels.result c.args.program choice.Labels c.in-Labels.is c.play_program-in-Labels.ensures

pub returns-in-Rank : goal.returns-in-Rank
returns-in-Rank g c =
    let a = c.args.accepted in
    chosen-run (g.F.Files.seen c.args.files.now) (g.F.Files.seen c.play_program-in-Rank.new.files) c.args.trace.now (setting_of a.work.job) a.work.graph.edges (ids a.work.graph.vertices) a.lines
    c.play_program-in-Rank.result c.args.program choice.Rank c.in-Rank.is c.play_program-in-Rank.ensures

pub returns-in-InDegree : goal.returns-in-InDegree
returns-in-InDegree g c =
    let a = c.args.accepted in
    chosen-run (g.F.Files.seen c.args.files.now) (g.F.Files.seen c.play_program-in-InDegree.new.files) c.args.trace.now (setting_of a.work.job) a.work.graph.edges (ids a.work.graph.vertices) a.lines
    c.play_program-in-InDegree.result c.args.program choice.InDegree c.in-InDegree.is c.play_program-in-InDegree.ensures

pub returns-in-Core : goal.returns-in-Core
returns-in-Core g c =
    let a = c.args.accepted in
    chosen-run (g.F.Files.seen c.args.files.now) (g.F.Files.seen c.play_program-in-Core.new.files) c.args.trace.now (setting_of a.work.job) a.work.graph.edges (ids a.work.graph.vertices) a.lines
    c.play_program-in-Core.result c.args.program (choice.Core c.in-Core.k) c.in-Core.is c.play_program-in-Core.ensures

pub returns-in-Reach : goal.returns-in-Reach
returns-in-Reach g c =
    let a = c.args.accepted in
    chosen-run (g.F.Files.seen c.args.files.now) (g.F.Files.seen c.play_program-in-Reach.new.files) c.args.trace.now (setting_of a.work.job) a.work.graph.edges (ids a.work.graph.vertices) a.lines
    c.play_program-in-Reach.result c.args.program (choice.Reach c.in-Reach.seeds) c.in-Reach.is c.play_program-in-Reach.ensures
