use Rattle.std.proofs.Common.{◌≡◌, ◌+◌, ◌-◌, ◌*◌, ◌≤◌, length, drop}
use Rattle.gr_batch.specs.Telling.{telling}
use Rattle.gr_cluster.specs.ToGo.{most_added, to_go}
use Rattle.gr_agree.specs.Agree.{Invariant}
use Rattle.gr_play.specs.Playing.{start, event_lines}
use Rattle.gr_play.specs.Inside.Progress.{PlaysTo}
use Rattle.gr_play.specs.Inside.Room.{HasRoomFor}
use Rattle.gr_play.proofs.lines.play_lines.Given as goal

abbrev pub invariant-lines : goal.invariant-lines
invariant-lines g l =
    let P = g.P.VertexProgram.program_of l.initial.cluster.program in
    let c = l.initial.cluster.cluster in
    let a = g.F.Files.seen l.initial.files in
    record {
      program : l.cluster.program ≡ l.initial.cluster.program;
      places : l.cluster.cluster.places ≡ c.places;
      agrees : Invariant P l.cluster.cluster;
      room : HasRoomFor l.cluster.cluster l.steps (length l.schedule - l.line-index);
      few : l.steps + to_go l.cluster.cluster + most_added * event_lines (drop l.line-index l.schedule) ≤ l.initial.steps + to_go c + most_added * event_lines l.schedule;
      begun : (g.F.Files.seen l.files).is_begun ≡ a.is_begun;
      later : a.write_faults ≤ (g.F.Files.seen l.files).write_faults;
      played : PlaysTo P (telling g.P.Value.Datum.numbers_of g.P.Acc.Datum.numbers_of) l.traced l.initial.steps l.steps a (g.F.Files.seen l.files)
          (start c l.schedule) (start l.cluster.cluster (drop l.line-index l.schedule));
    }
