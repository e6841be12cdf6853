use Rattle.std.proofs.Common.{◌≡◌, ◌∙◌, ◌++◌, sym, ap, arith}
use Rattle.gr_batch.specs.declared.stage.Stage.TheVariants as stage
use Rattle.gr_batch.specs.Bodies.{grants_of}
use Rattle.gr_rebuild.proofs.Senders.{gathered, gathered-none, gathered-more, gathered-same, gathered-all, items_from, items-of_each}
use Rattle.gr_rebuild.proofs.granting.sent_copies.Goals as goal
use Rattle.gr_rebuild.proofs.granting.sent_copies.Goals.{then-has+in_ok-extend_from_slice, else-has}

pub loop-q-init : goal.loop-q-init
loop-q-init g c = c.new-copies.ensures ∙ sym (gathered-none (items_from c.args.inbox.now c.args.epoch stage.Grant grants_of) c.args.others)

pub loop-q-preserved : goal.loop-q-preserved
loop-q-preserved g c =
    let part = items_from c.args.inbox.now c.args.epoch stage.Grant grants_of in
    let others = c.args.others in
    let q = c.loop-q.q in
    elim c.if-has.branch [
      | then-has+in_ok-extend_from_slice w ↦
          gathered-more part others q c.loop-q.copies c.if-has.copies c.has.ensures.places.rise (sym c.has.ensures.test ∙ w.if-has.true) c.loop-q.invariant
          (w.copies-is ∙ (w.in_ok-extend_from_slice.ensures.ok ∙ ap (λ l. c.loop-q.copies ++ l) w.grants_from.ensures))
      | else-has w ↦ gathered-same part others q c.loop-q.copies c.if-has.copies (sym c.has.ensures.test ∙ w.if-has.false) c.loop-q.invariant w.copies-is
    ]

pub returns : goal.returns
returns g c =
    let part = items_from c.args.inbox.now c.args.epoch stage.Grant grants_of in
    let end : c.loop-q.q ≡ 64 = omega arith in
    c.loop-q.invariant ∙ (ap (gathered part c.args.others) end
    ∙ (gathered-all part c.args.others c.has-places.ensures.places.below ∙ items-of_each c.args.inbox.now c.args.epoch stage.Grant grants_of c.args.others))
