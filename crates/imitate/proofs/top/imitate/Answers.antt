use Rattle.std.proofs.Common.{ℕ, List, Bor, map, refl}
use Rattle.imitate.specs.Commands.{asked_by}
use Rattle.imitate.proofs.Behaviours.{usage-left, end-answered, refusal-answered, refusal-left}
use Rattle.imitate.proofs.top.imitate.Goals as goal

pub returns-in_default-clause-left : goal.returns-in_default-clause-left
returns-in_default-clause-left g c =
    let words : List (List ℕ) = map (λ (w : Bor (List ℕ)). w.now) c.args.words.now in
    usage-left (g.F.Files.seen c.args.files.now) (g.O.Sink.seen c.args.out.now) (g.E.Sink.seen c.args.err.now) (g.E.Sink.seen c.say.new.err) words c.say.result
    (c.in_default.ensures.none refl) c.say.ensures.status c.say.ensures.part c.say.ensures.whole

pub returns-in-Ok-clause-answered : goal.returns-in-Ok-clause-answered
returns-in-Ok-clause-answered g c =
    let words : List (List ℕ) = map (λ (w : Bor (List ℕ)). w.now) c.args.words.now in
    end-answered words (asked_by c.in-Some.command) c.in-Some.ensures.some (g.F.Files.seen c.args.files.now) (g.F.Files.seen c.answer.new.files) (g.O.Sink.seen c.args.out.now) (g.O.Sink.seen c.answer.new.out)
    c.in-Ok.ended c.in-Ok.ensures c.status.result c.status.ensures (g.E.Sink.seen c.args.err.now)

pub returns-in-Err-clause-left : goal.returns-in-Err-clause-left
returns-in-Err-clause-left g c =
    let words : List (List ℕ) = map (λ (w : Bor (List ℕ)). w.now) c.args.words.now in
    let asked = asked_by c.in-Some.command in
    let part = rw c.names.ensures at c.say-in-Err.ensures.part in
    let whole = rw c.names.ensures at c.say-in-Err.ensures.whole in
    refusal-left words asked c.in-Some.ensures.some (g.F.Files.seen c.args.files.now) (g.F.Files.seen c.answer.new.files) (g.O.Sink.seen c.args.out.now) (g.O.Sink.seen c.answer.new.out)
    (g.E.Sink.seen c.args.err.now) (g.E.Sink.seen c.say-in-Err.new.err) c.say-in-Err.result c.in-Err.refusal c.in-Err.ensures.fails c.say-in-Err.ensures.status part whole

pub returns-in-Err-clause-answered : goal.returns-in-Err-clause-answered
returns-in-Err-clause-answered g c =
    let words : List (List ℕ) = map (λ (w : Bor (List ℕ)). w.now) c.args.words.now in
    refusal-answered words (asked_by c.in-Some.command) c.in-Some.ensures.some (g.F.Files.seen c.args.files.now) (g.F.Files.seen c.answer.new.files) (g.O.Sink.seen c.args.out.now)
    (g.O.Sink.seen c.answer.new.out) c.say-in-Err.result (g.E.Sink.seen c.args.err.now) (g.E.Sink.seen c.say-in-Err.new.err) c.in-Err.refusal c.in-Err.ensures.fails c.say-in-Err.ensures.status
