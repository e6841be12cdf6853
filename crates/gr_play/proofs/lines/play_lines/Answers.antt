use Rattle.std.proofs.Common.{◌≡◌, ◌∙◌, ◌+◌, ◌-◌, [], ◌∷◌, length, drop, refl, sym, ap, subst, arith, drop-cons, add-one, suc}
use Rattle.gr_batch.specs.Telling.{telling}
use Rattle.gr_agree.specs.Agree.{Invariant}
use Rattle.gr_play.specs.Playing.{start, event_lines}
use Rattle.gr_play.specs.Inside.Progress.{PlaysTo, PlaysPart}
use Rattle.gr_play.specs.Inside.Room.{HasRoomFor}
use Rattle.gr_play.proofs.Onward.{Rose-later, event_lines-cons}
use Rattle.gr_play.proofs.Positions.{SameFrom-refl}
use Rattle.gr_play.proofs.Reached.{PlaysTo-nothing, PlaysTo-trans, PlaysTo-part}
use Rattle.gr_play.proofs.lines.play_lines.Goals as goal

pub lines-init : goal.lines-init
lines-init g c =
    let P = g.P.VertexProgram.program_of c.args.cluster.now.program in
    let T = telling g.P.Value.Datum.numbers_of g.P.Acc.Datum.numbers_of in
    let c0 = c.args.cluster.now.cluster in
    let from = c.args.steps.now in
    let a = g.F.Files.seen c.args.files.now in
    let ls = c.args.schedule.now in
    let all : length ls ≡ length ls - 0 = omega arith in
    record {
      program = refl;
      places = refl;
      agrees = c.requires.agrees;
      room = subst (HasRoomFor c0 from) all c.requires.room;
      few = omega arith;
      begun = refl;
      later = omega arith;
      played = PlaysTo-nothing P T c.args.traced from from a a (start c0 ls) (start c0 ls) refl refl (SameFrom-refl P (start c0 ls));
    }

pub play_line-requires-clause-agrees : goal.play_line-requires-clause-agrees
play_line-requires-clause-agrees g c =
    subst (λ Q. Invariant Q c.lines.cluster.cluster) (sym (ap g.P.VertexProgram.program_of c.lines.invariant.program)) c.lines.invariant.agrees

pub lines-preserved : goal.lines-preserved
lines-preserved g c =
    let P = g.P.VertexProgram.program_of c.args.cluster.now.program in
    let T = telling g.P.Value.Datum.numbers_of g.P.Acc.Datum.numbers_of in
    let traced = c.args.traced in
    let c0 = c.args.cluster.now.cluster in
    let from = c.args.steps.now in
    let a = g.F.Files.seen c.args.files.now in
    let k = c.lines.cluster.cluster in
    let now = c.lines.steps in
    let b = g.F.Files.seen c.lines.files in
    let I = c.lines.invariant in
    let d = c.play_line.new.cluster.cluster in
    let to = c.play_line.new.steps in
    let b' = g.F.Files.seen c.play_line.new.files in
    let ls = c.args.schedule.now in
    let i = c.lines.line-index in
    let line = c.line-item.result in
    let rest = drop (i + 1) ls in
    let E = c.in-Ok.ensures in
    let same = ap g.P.VertexProgram.program_of I.program in
    let cut : drop i ls ≡ line ∷ rest = rw (add-one, drop-cons ls i line c.lines-test.true) (ap (λ x. x ∷ drop (suc i) ls) (sym c.line-item.is)) in
    let x = subst (λ Q. PlaysTo Q T traced now to b b' (start k (line ∷ rest)) (start d rest)) same (E.ok rest) in
    let y = PlaysTo-trans P T traced from now to a b b' (start c0 ls) (start k (line ∷ rest)) (start d rest) (subst (λ l. PlaysTo P T traced from now a b (start c0 ls) (start k l)) cut I.played) x in
    let events-cut : event_lines (drop i ls) ≡ event_lines (line ∷ []) + event_lines rest = ap event_lines cut ∙ event_lines-cons line rest in
    let left : length ls - i ≡ (length ls - (i + 1)) + 1 = omega (arith, c.lines-test.true) in
    record {
      program = E.program ∙ I.program;
      places = E.places ∙ I.places;
      agrees = subst (λ Q. Invariant Q d) same E.agrees;
      room = E.room (length ls - (i + 1)) (subst (HasRoomFor k now) left I.room);
      few = let f = I.few in let m = E.few in let parts = events-cut in omega (arith, f, m, parts);
      begun = (x.added).begun ∙ I.begun;
      later = let l = I.later in let m = (x.added).later in omega (arith, l, m);
      played = y;
    }

pub returns-in-Err : goal.returns-in-Err
returns-in-Err g c =
    let P = g.P.VertexProgram.program_of c.args.cluster.now.program in
    let T = telling g.P.Value.Datum.numbers_of g.P.Acc.Datum.numbers_of in
    let traced = c.args.traced in
    let c0 = c.args.cluster.now.cluster in
    let from = c.args.steps.now in
    let a = g.F.Files.seen c.args.files.now in
    let k = c.lines.cluster.cluster in
    let now = c.lines.steps in
    let b = g.F.Files.seen c.lines.files in
    let I = c.lines.invariant in
    let d = c.play_line.new.cluster.cluster in
    let to = c.play_line.new.steps in
    let b' = g.F.Files.seen c.play_line.new.files in
    let ls = c.args.schedule.now in
    let i = c.lines.line-index in
    let line = c.line-item.result in
    let rest = drop (i + 1) ls in
    let E = c.in-Err.ensures in
    let same = ap g.P.VertexProgram.program_of I.program in
    let cut : drop i ls ≡ line ∷ rest = rw (add-one, drop-cons ls i line c.lines-test.true) (ap (λ x. x ∷ drop (suc i) ls) (sym c.line-item.is)) in
    let events-cut : event_lines (drop i ls) ≡ event_lines (line ∷ []) + event_lines rest = ap event_lines cut ∙ event_lines-cons line rest in
    let x = subst (λ Q. PlaysPart Q T traced now to b b' (start k (line ∷ rest)) d) same (E.err rest) in
    record {
      ok = tt;
      err = PlaysTo-part P T traced from now to a b b' (start c0 ls) (start k (line ∷ rest)) d (subst (λ l. PlaysTo P T traced from now a b (start c0 ls) (start k l)) cut I.played) x;
      few = let f = I.few in let m = E.few in let parts = events-cut in omega (arith, f, m, parts);
      agrees = subst (λ Q. Invariant Q d) same E.agrees;
      program = E.program ∙ I.program;
      fault = λ f. let r = E.fault f in (r.0, Rose-later a.write_faults b.write_faults b'.write_faults I.later r.1);
    }
