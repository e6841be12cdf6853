use Rattle.std.proofs.Common.{◌∙◌, sym, ap}
use Rattle.gr_batch.specs.declared.stage.Stage.TheVariants as stage
use Rattle.gr_batch.specs.Bodies.{values_of}
use Rattle.gr_round.proofs.Senders.{items-some, items-none}
use Rattle.gr_round.proofs.Others.{values-other}
use Rattle.gr_round.proofs.brought.values_from.Goals as goal

pub returns-in-Update : goal.returns-in-Update
returns-in-Update g c =
    c.as_slice.ensures ∙ ap values_of (sym c.in-Update.is) ∙ sym (items-some c.args.inbox.now c.args.epoch stage.Update values_of c.args.sender c.in-Some.batch.now (sym c.in-Some.ensures.found))

pub returns-in_default : goal.returns-in_default
returns-in_default g c =
    sym (items-some c.args.inbox.now c.args.epoch stage.Update values_of c.args.sender c.in-Some.batch.now (sym c.in-Some.ensures.found) ∙ values-other c.in-Some.batch.now.body c.in_default.not-Update)

pub returns-in-None : goal.returns-in-None
returns-in-None g c = sym (items-none c.args.inbox.now c.args.epoch stage.Update values_of c.args.sender (sym c.in-None.ensures.found))
