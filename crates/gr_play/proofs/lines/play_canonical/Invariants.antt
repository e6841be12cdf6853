use Rattle.std.proofs.Common.{◌≡◌}
use Rattle.gr_batch.specs.Telling.{telling}
use Rattle.gr_cluster.specs.ToGo.{to_go}
use Rattle.gr_play.proofs.Onward.{Going}
use Rattle.gr_play.proofs.lines.play_canonical.Given as goal

abbrev pub invariant-canonical : goal.invariant-canonical
invariant-canonical g l =
    record {
      program : l.cluster.program ≡ l.initial.cluster.program;
      going : Going (g.P.VertexProgram.program_of l.initial.cluster.program) (telling g.P.Value.Datum.numbers_of g.P.Acc.Datum.numbers_of) l.traced l.through_commit
          l.initial.cluster.cluster l.initial.steps (g.F.Files.seen l.initial.files) l.cluster.cluster l.steps (g.F.Files.seen l.files);
    }

abbrev pub decreases-canonical : goal.decreases-canonical
decreases-canonical g l = to_go l.cluster.cluster
