use Rattle.std.proofs.Common.{◌≡◌, ◌∙◌, ◌+◌, [], ◌∷◌, List, sym, ap, subst, arith, Err}
use Rattle.gr_batch.specs.Telling.{telling}
use Rattle.gr_sched.specs.declared.event.Line.{Line}
use Rattle.gr_sched.specs.Reading.{places_of, are_below}
use Rattle.gr_play.specs.declared.stop.Stop.TheVariants as stop
use Rattle.gr_play.specs.Playing.{start, event_lines}
use Rattle.gr_play.specs.Inside.Progress.{PlaysTo, PlaysPart}
use Rattle.gr_play.proofs.Kept.{PlaysEvent-moved, Fails-moved}
use Rattle.gr_play.proofs.Onward.{Step-part, Step-to, Step-room, OnOk-of}
use Rattle.gr_play.proofs.Rooms.{HasRoomFor-fewer}
use Rattle.gr_play.proofs.lines.play_line.Goals as goal

pub returns-in-Ok : goal.returns-in-Ok
returns-in-Ok g c =
    let P = g.P.VertexProgram.program_of c.args.cluster.now.program in
    let L = g.met.P.VertexProgram.laws c.args.cluster.now.program in
    let T = telling g.P.Value.Datum.numbers_of g.P.Acc.Datum.numbers_of in
    let traced = c.args.traced in
    let c0 = c.args.cluster.now.cluster in
    let from = c.args.steps.now in
    let a = g.F.Files.seen c.args.files.now in
    let I = c.requires.agrees in
    let e = c.in-Step.event in
    let d = c.play_event.new.cluster.cluster in
    let to = c.play_event.new.steps in
    let b = g.F.Files.seen c.play_event.new.files in
    let x = c.in-Ok.ensures.ok in
    let K = c.in-Ok.ensures.agrees in
    let M = PlaysEvent-moved P L c0 I from e T traced a b d K to _ x in
    record {
      ok = subst (λ l. (rest : List Line) → PlaysTo P T traced from to a b (start c0 (l ∷ rest)) (start d rest)) (sym c.in-Step.is) (Step-to P T traced c0 from to a b e d _ x);
      err = tt;
      room = Step-room P T traced c0 from to a b e d _ x I K;
      few = let f = M.few in let one : event_lines (c.args.line ∷ []) ≡ 1 = ap (λ l. event_lines (l ∷ [])) c.in-Step.is in omega (arith, f, one);
      agrees = K;
      program = c.in-Ok.ensures.program;
      places = M.places;
      fault = λ f. absurd (cc);
    }

pub returns-in-Err : goal.returns-in-Err
returns-in-Err g c =
    let P = g.P.VertexProgram.program_of c.args.cluster.now.program in
    let L = g.met.P.VertexProgram.laws c.args.cluster.now.program in
    let T = telling g.P.Value.Datum.numbers_of g.P.Acc.Datum.numbers_of in
    let traced = c.args.traced in
    let c0 = c.args.cluster.now.cluster in
    let from = c.args.steps.now in
    let a = g.F.Files.seen c.args.files.now in
    let I = c.requires.agrees in
    let e = c.in-Step.event in
    let d = c.play_event.new.cluster.cluster in
    let to = c.play_event.new.steps in
    let b = g.F.Files.seen c.play_event.new.files in
    let x = c.in-Err.ensures.err in
    let K = c.in-Err.ensures.agrees in
    let M = Fails-moved P L c0 I from e T traced a b d K to x in
    record {
      ok = tt;
      err = subst (λ l. (rest : List Line) → PlaysPart P T traced from to a b (start c0 (l ∷ rest)) d) (sym c.in-Step.is) (Step-part P T traced c0 from to a b e d x);
      room = tt;
      few = let f = M.few in let one : event_lines (c.args.line ∷ []) ≡ 1 = ap (λ l. event_lines (l ∷ [])) c.in-Step.is in omega (arith, f, one);
      agrees = K;
      program = c.in-Err.ensures.program;
      places = M.places;
      fault = λ f. let s : c.in-Err.stop ≡ stop.TraceFault = cc in c.in-Err.ensures.fault (ap Err s);
    }

pub returns-in-Settle-clause-room : goal.returns-in-Settle-clause-room
returns-in-Settle-clause-room g c =
    let from = c.args.steps.now in
    OnOk-of c.play_canonical.result (λ n R. c.play_canonical.ensures.room n (HasRoomFor-fewer c.args.cluster.now.cluster from (n + 1) n (omega arith) R))

pub returns-in-Finish-clause-room : goal.returns-in-Finish-clause-room
returns-in-Finish-clause-room g c =
    let from = c.args.steps.now in
    OnOk-of c.play_canonical-in-Finish.result (λ n R. c.play_canonical-in-Finish.ensures.room n (HasRoomFor-fewer c.args.cluster.now.cluster from (n + 1) n (omega arith) R))

pub play_event-requires-clause-places : goal.play_event-requires-clause-places
play_event-requires-clause-places g c = ap (λ l. are_below c.args.cluster.now.cluster.places (places_of l)) (sym c.in-Step.is) ∙ c.requires.places
