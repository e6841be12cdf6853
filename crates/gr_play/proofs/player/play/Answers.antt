use Rattle.std.proofs.Common.{◌∙◌, ◌+◌, sym, ap, subst, arith, length, take, zero-add, le_refl}
use Rattle.std.proofs.lemmas.List.{take_all}
use Rattle.std.specs.Prelude.{IfSome}
use Rattle.std.specs.Option.{option_copied}
use Rattle.gr_batch.specs.Telling.{telling}
use Rattle.gr_play.specs.Playing.{start, Plays}
use Rattle.gr_play.specs.Inside.Adding.{Adds}
use Rattle.gr_play.specs.Tracing.{TracesPart}
use Rattle.gr_play.specs.TracedSteps.{text_of_steps}
use Rattle.gr_play.proofs.Adding.{part-traced}
use Rattle.gr_play.proofs.Positions.{Plays-nothing}
use Rattle.gr_play.proofs.Reached.{PlaysTo-whole}
use Rattle.gr_play.proofs.Rooms.{HasRoomFor-start}
use Rattle.gr_play.proofs.player.play.Goals as goal

pub returns-in-Err-clause-steps : goal.returns-in-Err-clause-steps
returns-in-Err-clause-steps g c =
    let P = g.P.VertexProgram.program_of c.args.cluster.now.program in
    let s = start c.args.cluster.now.cluster c.args.schedule.now in
    subst (λ n. Plays P s n c.args.cluster.now.cluster) (sym c.requires.none_yet) (Plays-nothing P s)

pub play_lines-requires-clause-room : goal.play_lines-requires-clause-room
play_lines-requires-clause-room g c =
    let P = g.P.VertexProgram.program_of c.args.cluster.now.program in
    let k = c.args.cluster.now.cluster in
    let R = c.requires in
    HasRoomFor-start P k c.limit_of-limit.ensures.agrees c.args.steps.now (length c.args.schedule.now) R.none_yet R.lines
    (omega (arith, c.limit_of-limit.ensures.limit, c.limit_of-limit.type_inv)) R.flight R.serial R.epoch R.commits

pub returns-in-Ok-clause-whole : goal.returns-in-Ok-clause-whole
returns-in-Ok-clause-whole g c = λ _.
    PlaysTo-whole (g.P.VertexProgram.program_of c.args.cluster.now.program) (telling g.P.Value.Datum.numbers_of g.P.Acc.Datum.numbers_of) c.is_some.result
    c.args.steps.now c.play_lines.new.steps (g.F.Files.seen c.begin_trace.new.files) (g.F.Files.seen c.play_lines.new.files)
    (start c.args.cluster.now.cluster c.args.schedule.now) c.play_lines.new.cluster.cluster c.requires.none_yet c.in-Ok.ensures.ok

pub returns-in-Err-play_lines-clause-part : goal.returns-in-Err-play_lines-clause-part
returns-in-Err-play_lines-clause-part g c = λ _.
    let P = g.P.VertexProgram.program_of c.args.cluster.now.program in
    let T = telling g.P.Value.Datum.numbers_of g.P.Acc.Datum.numbers_of in
    let s = start c.args.cluster.now.cluster c.args.schedule.now in
    let m = g.F.Files.seen c.begin_trace.new.files in
    let b = g.F.Files.seen c.play_lines.new.files in
    let E = c.in-Err-play_lines.ensures.err in
    let counted = E.counted ∙ ap (λ n. n + E.taken) c.requires.none_yet ∙ zero-add E.taken in
    let begun = rw c.in_default.is at c.begin_trace.ensures.ok in
    let is = rw c.in_default.is at c.begin_trace.ensures.begun in
    let added = subst (λ t. Adds t m b (take E.part (text_of_steps P T s E.taken))) c.is_some.ensures E.added in
    subst (λ n. IfSome (option_copied c.args.trace) (λ name. TracesPart (g.F.Files.seen c.args.files.now) b name (text_of_steps P T s n))) (sym counted)
    (part-traced c.args.trace (g.F.Files.seen c.args.files.now) m b E.part (text_of_steps P T s E.taken) begun is added)

-- where the list of lost vertices finds no memory the whole text is there
pub returns-in-Ok-clause-part : goal.returns-in-Ok-clause-part
returns-in-Ok-clause-part g c = λ _.
    let P = g.P.VertexProgram.program_of c.args.cluster.now.program in
    let T = telling g.P.Value.Datum.numbers_of g.P.Acc.Datum.numbers_of in
    let s = start c.args.cluster.now.cluster c.args.schedule.now in
    let m = g.F.Files.seen c.begin_trace.new.files in
    let b = g.F.Files.seen c.play_lines.new.files in
    let E = c.in-Ok.ensures.ok in
    let text = text_of_steps P T s E.taken in
    let counted = E.counted ∙ ap (λ n. n + E.taken) c.requires.none_yet ∙ zero-add E.taken in
    let begun = rw c.in_default.is at c.begin_trace.ensures.ok in
    let is = rw c.in_default.is at c.begin_trace.ensures.begun in
    let whole = subst (Adds c.is_some.result m b) (sym (take_all (length text) text (le_refl _))) E.added in
    let added = subst (λ t. Adds t m b (take (length text) text)) c.is_some.ensures whole in
    subst (λ n. IfSome (option_copied c.args.trace) (λ name. TracesPart (g.F.Files.seen c.args.files.now) b name (text_of_steps P T s n))) (sym counted)
    (part-traced c.args.trace (g.F.Files.seen c.args.files.now) m b (length text) text begun is added)
