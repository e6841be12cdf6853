use Rattle.std.proofs.Common.{◌≡◌, ◌∙◌, ap, Some, length, arith}
use Rattle.gr_play.proofs.Following.{canonical-deliver, canonical-worker, canonical-decided}
use Rattle.gr_play.proofs.canonical.next_event.Goals as goal

pub returns-then-flight_len-gt0 : goal.returns-then-flight_len-gt0
returns-then-flight_len-gt0 g c =
    let t = c.args.cluster.now.cluster in
    canonical-deliver t c.requires (let e = c.flight_len.ensures in omega arith)

pub returns-in-Some : goal.returns-in-Some
returns-in-Some g c =
    let t = c.args.cluster.now.cluster in
    let none : length t.flight ≡ 0 = let e = c.flight_len.ensures in omega arith in
    canonical-worker t c.requires none c.in-Some.p c.in-Some.ensures

pub returns-in-None : goal.returns-in-None
returns-in-None g c =
    let t = c.args.cluster.now.cluster in
    let none : length t.flight ≡ 0 = let e = c.flight_len.ensures in omega arith in
    ap Some c.decision.ensures ∙ canonical-decided t c.requires none c.in-None.ensures
