use Rattle.std.proofs.Common.{◌≡◌, ◌∙◌, ◌++◌, ◌<◌, map, sym, ap, subst, arith}
use Rattle.std.specs.List.{All}
use Rattle.gr_migrate.specs.Askers.{AreAskers}
use Rattle.gr_rebuild.specs.Asked.{asks_from, asked_for}
use Rattle.gr_rebuild.proofs.Askers.{asks-gathered, few-askers, are-askers}
use Rattle.gr_rebuild.proofs.Senders.{gathered, gathered-none, gathered-more, gathered-same}
use Rattle.gr_rebuild.proofs.asking.asked.Goals as goal
use Rattle.gr_rebuild.proofs.asking.asked.Goals.{then-has+in_ok-add_asks, else-has}

pub loop-q-init : goal.loop-q-init
loop-q-init g c = c.new-asked.ensures ∙ sym (gathered-none (asks_from c.args.inbox.now c.args.epoch) c.args.others)

pub loop-q-preserved : goal.loop-q-preserved
loop-q-preserved g c =
    let part = asks_from c.args.inbox.now c.args.epoch in
    let others = c.args.others in
    let q = c.loop-q.q in
    elim c.if-has.branch [
      | then-has+in_ok-add_asks w ↦
          gathered-more part others q c.loop-q.asked c.if-has.asked c.has.ensures.places.rise (sym c.has.ensures.test ∙ w.if-has.true) c.loop-q.invariant
          (w.asked-is ∙ (w.in_ok-add_asks.ensures ∙ ap (λ vs. c.loop-q.asked ++ map (λ v. record { vertex = v; asker = q }) vs) w.asks_from.ensures))
      | else-has w ↦ gathered-same part others q c.loop-q.asked c.if-has.asked (sym c.has.ensures.test ∙ w.if-has.false) c.loop-q.invariant w.asked-is
    ]

pub returns-clause-asks : goal.returns-clause-asks
returns-clause-asks g c =
    let end : c.loop-q.q ≡ 64 = omega arith in
    c.loop-q.invariant ∙ (ap (gathered (asks_from c.args.inbox.now c.args.epoch) c.args.others) end ∙ asks-gathered c.args.inbox.now c.args.epoch c.args.others c.has-places.ensures.places)

pub returns-clause-few : goal.returns-clause-few
returns-clause-few g c = subst (All (λ a. a.asker < 64)) (sym (returns-clause-asks g c)) (few-askers c.args.inbox.now c.args.epoch c.args.others c.has-places.ensures.places)

pub returns-clause-askers : goal.returns-clause-askers
returns-clause-askers g c =
    let by = asked_for c.args.inbox.now c.args.epoch c.args.others in
    subst (λ l. AreAskers l by) (sym (returns-clause-asks g c)) (are-askers c.args.inbox.now c.args.epoch c.args.others c.has-places.ensures.places)
