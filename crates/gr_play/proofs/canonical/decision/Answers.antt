use Rattle.std.proofs.Common.{◌≡◌, ◌∙◌, ◌&&◌, true, not, nat_lt, length, take, sym, ap}
use Rattle.gr_sched.specs.declared.event.Event.TheVariants as event
use Rattle.gr_view.specs.Modes.{is_failed}
use Rattle.gr_cluster.specs.Step.{down_among}
use Rattle.gr_cluster.specs.Canonical.{is_crash_unseen}
use Rattle.gr_play.proofs.Following.{unseen-down, decision-recover, decision-barrier}
use Rattle.gr_play.proofs.canonical.decision.Goals as goal

pub returns-then-is_failed-unseen : goal.returns-then-is_failed-unseen
returns-then-is_failed-unseen g c =
    let t = c.args.cluster.now.cluster in
    let same = c.coordinator-coordinator.ensures in
    let failed : c.is_failed.result ≡ is_failed t.coordinator.mode = c.is_failed.ensures ∙ ap (λ k. is_failed k.mode) same in
    let unseen : nat_lt 0 c.count-unseen.result ≡ is_crash_unseen t = ap (nat_lt 0) (c.count-unseen.ensures ∙ ap length (c.down_among.ensures ∙ ap (λ k. down_among t k.live) same)) ∙ unseen-down t in
    let test : (is_failed t.coordinator.mode && not (is_crash_unseen t)) ≡ true = (λ i. sym failed i && not (sym unseen i)) ∙ c.if-is_failed-unseen.true in
    ap event.Recover (c.first_places.ensures ∙ ap (λ k. take k.spares k.dead) same) ∙ decision-recover t test

pub returns-else-is_failed-unseen : goal.returns-else-is_failed-unseen
returns-else-is_failed-unseen g c =
    let t = c.args.cluster.now.cluster in
    let same = c.coordinator-coordinator.ensures in
    let failed : c.is_failed.result ≡ is_failed t.coordinator.mode = c.is_failed.ensures ∙ ap (λ k. is_failed k.mode) same in
    let unseen : nat_lt 0 c.count-unseen.result ≡ is_crash_unseen t = ap (nat_lt 0) (c.count-unseen.ensures ∙ ap length (c.down_among.ensures ∙ ap (λ k. down_among t k.live) same)) ∙ unseen-down t in
    decision-barrier t ((λ i. sym failed i && not (sym unseen i)) ∙ c.if-is_failed-unseen.false)
