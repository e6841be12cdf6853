use Rattle.std.proofs.Common.{inl, inr}
use Rattle.gr_edges.specs.Vertices.{ids}
use Rattle.gr_core.specs.Loaded.{setting_of}
use Rattle.gr_cluster.specs.Load.{load}
use Rattle.gr_play.specs.Playing.{start, told_by}
use Rattle.imitate.specs.Chosen.{chosen}
use Rattle.imitate.proofs.Playings.{loaded-fresh, is-unplayed}
use Rattle.imitate.proofs.played.play_program.Goals as goal

pub play-ending-requires-clause-places : goal.play-ending-requires-clause-places
play-ending-requires-clause-places g c =
    let work = c.args.accepted.work in
    let fresh = loaded-fresh (g.P.VertexProgram.program_of c.args.program) (setting_of work.job) work.graph.edges (ids work.graph.vertices) c.args.program c.in-Ok.cluster c.in-Ok.ensures.cluster in
    rw (fresh.places_are, c.as_slice.ensures) c.requires.placed

pub play-ending-requires-clause-flight : goal.play-ending-requires-clause-flight
play-ending-requires-clause-flight g c =
    let work = c.args.accepted.work in
    (loaded-fresh (g.P.VertexProgram.program_of c.args.program) (setting_of work.job) work.graph.edges (ids work.graph.vertices) c.args.program c.in-Ok.cluster c.in-Ok.ensures.cluster).flight

pub play-ending-requires-clause-serial : goal.play-ending-requires-clause-serial
play-ending-requires-clause-serial g c =
    let work = c.args.accepted.work in
    (loaded-fresh (g.P.VertexProgram.program_of c.args.program) (setting_of work.job) work.graph.edges (ids work.graph.vertices) c.args.program c.in-Ok.cluster c.in-Ok.ensures.cluster).serial

pub play-ending-requires-clause-epoch : goal.play-ending-requires-clause-epoch
play-ending-requires-clause-epoch g c =
    let work = c.args.accepted.work in
    (loaded-fresh (g.P.VertexProgram.program_of c.args.program) (setting_of work.job) work.graph.edges (ids work.graph.vertices) c.args.program c.in-Ok.cluster c.in-Ok.ensures.cluster).epoch

pub play-ending-requires-clause-commits : goal.play-ending-requires-clause-commits
play-ending-requires-clause-commits g c =
    let work = c.args.accepted.work in
    (loaded-fresh (g.P.VertexProgram.program_of c.args.program) (setting_of work.job) work.graph.edges (ids work.graph.vertices) c.args.program c.in-Ok.cluster c.in-Ok.ensures.cluster).commits

pub returns : goal.returns
returns g c =
    let P = g.P.VertexProgram.program_of c.args.program in
    let work = c.args.accepted.work in
    let begin = start (load P (setting_of work.job) work.graph.edges (ids work.graph.vertices)) c.args.accepted.lines in
    let files = g.F.Files.seen c.args.files.now in
    let files' = g.F.Files.seen c.play-ending.new.files in
    let traced = rw (c.in-Ok.ensures.cluster, c.as_slice.ensures) at c.play-ending.ensures.traced in
    let part = rw (c.in-Ok.ensures.cluster, c.as_slice.ensures) at c.play-ending.ensures.part in
    record {
      played = tt;
      unplayed = is-unplayed files files' c.args.trace.now (chosen P g.P.Value.Datum.text_of g.P.Value.Datum.numbers_of g.P.Acc.Datum.numbers_of) begin c.play-ending.new.steps
          (g.met.F.Files.begun_told c.play-ending.new.files) (told_by c.play-ending.result) traced part c.in-Err-tell.why
          (elim c.in-Err-tell.ensures.failed [ inl e ↦ inl e | inr f ↦ inr (f.0, (c.play-ending.ensures.fault f.1).1) ]);
    }
