use Rattle.std.proofs.Common.{◌≡◌, ◌∙◌, refl, sym, ap, subst, Some, Err, ◌⊎◌}
use Rattle.gr_batch.specs.Telling.{telling}
use Rattle.gr_cluster.specs.Canonical.{next_canonical}
use Rattle.gr_agree.specs.Agree.{Invariant}
use Rattle.gr_play.specs.declared.stop.Stop.TheVariants as stop
use Rattle.gr_play.specs.Inside.Progress.{PlaysEvent, FailsBefore, FailsAfter}
use Rattle.gr_play.proofs.Onward.{Rose-later, Going-nothing, Going-passed, Going-placed, Going-part, Going-failed, Going-onward, Going-nearer, Going-ended, Going-on}
use Rattle.gr_play.proofs.Rooms.{HasRoomFor-one}
use Rattle.gr_play.proofs.lines.play_canonical.Goals as goal

pub canonical-init : goal.canonical-init
canonical-init g c =
    let P = g.P.VertexProgram.program_of c.args.cluster.now.program in
    let L = g.met.P.VertexProgram.laws c.args.cluster.now.program in
    let T = telling g.P.Value.Datum.numbers_of g.P.Acc.Datum.numbers_of in
    let traced = c.args.traced in
    let through = c.args.through_commit in
    let c0 = c.args.cluster.now.cluster in
    let from = c.args.steps.now in
    let a = g.F.Files.seen c.args.files.now in
    record { program = refl; going = Going-nothing P L T traced through c0 from a c.requires.agrees }

pub play_event-requires-clause-places : goal.play_event-requires-clause-places
play_event-requires-clause-places g c =
    let P = g.P.VertexProgram.program_of c.args.cluster.now.program in
    let L = g.met.P.VertexProgram.laws c.args.cluster.now.program in
    let T = telling g.P.Value.Datum.numbers_of g.P.Acc.Datum.numbers_of in
    let traced = c.args.traced in
    let through = c.args.through_commit in
    let c0 = c.args.cluster.now.cluster in
    let from = c.args.steps.now in
    let a = g.F.Files.seen c.args.files.now in
    let k = c.canonical.cluster.cluster in
    let now = c.canonical.steps in
    let b = g.F.Files.seen c.canonical.files in
    let G = c.canonical.invariant.going in
    let e = c.in-Some.event in
    let is : next_canonical k ≡ Some e = sym c.in-Some.ensures.event in
    Going-placed P L T traced through c0 from a k now b G e is

pub play_event-requires-clause-room : goal.play_event-requires-clause-room
play_event-requires-clause-room g c =
    let P = g.P.VertexProgram.program_of c.args.cluster.now.program in
    let L = g.met.P.VertexProgram.laws c.args.cluster.now.program in
    let T = telling g.P.Value.Datum.numbers_of g.P.Acc.Datum.numbers_of in
    let traced = c.args.traced in
    let through = c.args.through_commit in
    let c0 = c.args.cluster.now.cluster in
    let from = c.args.steps.now in
    let a = g.F.Files.seen c.args.files.now in
    let k = c.canonical.cluster.cluster in
    let now = c.canonical.steps in
    let b = g.F.Files.seen c.canonical.files in
    let G = c.canonical.invariant.going in
    let e = c.in-Some.event in
    let is : next_canonical k ≡ Some e = sym c.in-Some.ensures.event in
    HasRoomFor-one k now 0 (G.onward.room 0 c.requires.room)

pub play_event-requires-clause-begun : goal.play_event-requires-clause-begun
play_event-requires-clause-begun g c =
    let P = g.P.VertexProgram.program_of c.args.cluster.now.program in
    let L = g.met.P.VertexProgram.laws c.args.cluster.now.program in
    let T = telling g.P.Value.Datum.numbers_of g.P.Acc.Datum.numbers_of in
    let traced = c.args.traced in
    let through = c.args.through_commit in
    let c0 = c.args.cluster.now.cluster in
    let from = c.args.steps.now in
    let a = g.F.Files.seen c.args.files.now in
    let k = c.canonical.cluster.cluster in
    let now = c.canonical.steps in
    let b = g.F.Files.seen c.canonical.files in
    let G = c.canonical.invariant.going in
    let e = c.in-Some.event in
    let is : next_canonical k ≡ Some e = sym c.in-Some.ensures.event in
    λ t. G.begun ∙ c.requires.begun t

pub canonical-smaller : goal.canonical-smaller
canonical-smaller g c =
    let P = g.P.VertexProgram.program_of c.args.cluster.now.program in
    let L = g.met.P.VertexProgram.laws c.args.cluster.now.program in
    let T = telling g.P.Value.Datum.numbers_of g.P.Acc.Datum.numbers_of in
    let traced = c.args.traced in
    let through = c.args.through_commit in
    let c0 = c.args.cluster.now.cluster in
    let from = c.args.steps.now in
    let a = g.F.Files.seen c.args.files.now in
    let k = c.canonical.cluster.cluster in
    let now = c.canonical.steps in
    let b = g.F.Files.seen c.canonical.files in
    let G = c.canonical.invariant.going in
    let e = c.in-Some.event in
    let is : next_canonical k ≡ Some e = sym c.in-Some.ensures.event in
    let d = c.play_event.new.cluster.cluster in
    let to = c.play_event.new.steps in
    let b' = g.F.Files.seen c.play_event.new.files in
    let same = ap g.P.VertexProgram.program_of c.canonical.invariant.program in
    let K = subst (λ Q. Invariant Q d) same c.in-Ok.ensures.agrees in
    let x = subst (λ Q. PlaysEvent Q T traced now to b b' k e d c.in-Ok.commits) same c.in-Ok.ensures.ok in
    Going-nearer P L T traced through c0 from a k now b G e is d K to b' c.in-Ok.commits x

pub canonical-preserved : goal.canonical-preserved
canonical-preserved g c =
    let P = g.P.VertexProgram.program_of c.args.cluster.now.program in
    let L = g.met.P.VertexProgram.laws c.args.cluster.now.program in
    let T = telling g.P.Value.Datum.numbers_of g.P.Acc.Datum.numbers_of in
    let traced = c.args.traced in
    let through = c.args.through_commit in
    let c0 = c.args.cluster.now.cluster in
    let from = c.args.steps.now in
    let a = g.F.Files.seen c.args.files.now in
    let k = c.canonical.cluster.cluster in
    let now = c.canonical.steps in
    let b = g.F.Files.seen c.canonical.files in
    let G = c.canonical.invariant.going in
    let e = c.in-Some.event in
    let is : next_canonical k ≡ Some e = sym c.in-Some.ensures.event in
    let d = c.play_event.new.cluster.cluster in
    let to = c.play_event.new.steps in
    let b' = g.F.Files.seen c.play_event.new.files in
    let same = ap g.P.VertexProgram.program_of c.canonical.invariant.program in
    let K = subst (λ Q. Invariant Q d) same c.in-Ok.ensures.agrees in
    let x = subst (λ Q. PlaysEvent Q T traced now to b b' k e d c.in-Ok.commits) same c.in-Ok.ensures.ok in
    record {
      program = c.in-Ok.ensures.program ∙ c.canonical.invariant.program;
      going = Going-on P L T traced through c0 from a k now b G e is d K to b' c.in-Ok.commits x c.if-commits-through_commit.false;
    }

pub returns-then-commits-through_commit : goal.returns-then-commits-through_commit
returns-then-commits-through_commit g c =
    let P = g.P.VertexProgram.program_of c.args.cluster.now.program in
    let L = g.met.P.VertexProgram.laws c.args.cluster.now.program in
    let T = telling g.P.Value.Datum.numbers_of g.P.Acc.Datum.numbers_of in
    let traced = c.args.traced in
    let through = c.args.through_commit in
    let c0 = c.args.cluster.now.cluster in
    let from = c.args.steps.now in
    let a = g.F.Files.seen c.args.files.now in
    let k = c.canonical.cluster.cluster in
    let now = c.canonical.steps in
    let b = g.F.Files.seen c.canonical.files in
    let G = c.canonical.invariant.going in
    let e = c.in-Some.event in
    let is : next_canonical k ≡ Some e = sym c.in-Some.ensures.event in
    let d = c.play_event.new.cluster.cluster in
    let to = c.play_event.new.steps in
    let b' = g.F.Files.seen c.play_event.new.files in
    let same = ap g.P.VertexProgram.program_of c.canonical.invariant.program in
    let K = subst (λ Q. Invariant Q d) same c.in-Ok.ensures.agrees in
    let x = subst (λ Q. PlaysEvent Q T traced now to b b' k e d c.in-Ok.commits) same c.in-Ok.ensures.ok in
    let O = Going-onward P L T traced through c0 from a k now b G e is d K to b' c.in-Ok.commits x in
    record {
      ok = Going-ended P L T traced through c0 from a k now b G e is d K to b' c.in-Ok.commits x c.if-commits-through_commit.true;
      err = tt;
      room = O.room;
      few = O.few;
      agrees = O.agrees;
      program = c.in-Ok.ensures.program ∙ c.canonical.invariant.program;
      places = O.places;
      fault = λ f. absurd (cc);
    }

pub returns-in-Err : goal.returns-in-Err
returns-in-Err g c =
    let P = g.P.VertexProgram.program_of c.args.cluster.now.program in
    let L = g.met.P.VertexProgram.laws c.args.cluster.now.program in
    let T = telling g.P.Value.Datum.numbers_of g.P.Acc.Datum.numbers_of in
    let traced = c.args.traced in
    let through = c.args.through_commit in
    let c0 = c.args.cluster.now.cluster in
    let from = c.args.steps.now in
    let a = g.F.Files.seen c.args.files.now in
    let k = c.canonical.cluster.cluster in
    let now = c.canonical.steps in
    let b = g.F.Files.seen c.canonical.files in
    let G = c.canonical.invariant.going in
    let e = c.in-Some.event in
    let is : next_canonical k ≡ Some e = sym c.in-Some.ensures.event in
    let d = c.play_event.new.cluster.cluster in
    let to = c.play_event.new.steps in
    let b' = g.F.Files.seen c.play_event.new.files in
    let same = ap g.P.VertexProgram.program_of c.canonical.invariant.program in
    let K = subst (λ Q. Invariant Q d) same c.in-Err.ensures.agrees in
    let x = subst (λ Q. FailsBefore Q T traced now to b b' k e d ⊎ FailsAfter Q T traced now to b b' k e d) same c.in-Err.ensures.err in
    let O = Going-failed P L T traced through c0 from a k now b G e is d K to b' x in
    record {
      ok = tt;
      err = Going-part P L T traced through c0 from a k now b G e is d K to b' x;
      room = O.room;
      few = O.few;
      agrees = O.agrees;
      program = c.in-Err.ensures.program ∙ c.canonical.invariant.program;
      places = O.places;
      fault = λ f. let s : c.in-Err.stop ≡ stop.TraceFault = cc in let r = c.in-Err.ensures.fault (ap Err s) in (r.0, Rose-later a.write_faults b.write_faults b'.write_faults G.later r.1);
    }

pub returns : goal.returns
returns g c =
    let P = g.P.VertexProgram.program_of c.args.cluster.now.program in
    let L = g.met.P.VertexProgram.laws c.args.cluster.now.program in
    let T = telling g.P.Value.Datum.numbers_of g.P.Acc.Datum.numbers_of in
    let traced = c.args.traced in
    let through = c.args.through_commit in
    let c0 = c.args.cluster.now.cluster in
    let from = c.args.steps.now in
    let a = g.F.Files.seen c.args.files.now in
    let k = c.canonical.cluster.cluster in
    let now = c.canonical.steps in
    let b = g.F.Files.seen c.canonical.files in
    let G = c.canonical.invariant.going in
    record {
      ok = Going-passed P L T traced through c0 from a k now b G (sym c.next_canonical.ensures.event ∙ c.in_default.is);
      err = tt;
      room = G.onward.room;
      few = G.onward.few;
      agrees = G.onward.agrees;
      program = c.canonical.invariant.program;
      places = G.onward.places;
      fault = λ f. absurd (cc);
    }
