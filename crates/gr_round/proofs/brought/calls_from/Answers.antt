use Rattle.std.proofs.Common.{◌∙◌, sym, ap}
use Rattle.gr_batch.specs.declared.stage.Stage.TheVariants as stage
use Rattle.gr_batch.specs.Bodies.{calls_of}
use Rattle.gr_round.proofs.Senders.{items-some, items-none}
use Rattle.gr_round.proofs.Others.{calls-other}
use Rattle.gr_round.proofs.brought.calls_from.Goals as goal

pub returns-in-Call : goal.returns-in-Call
returns-in-Call g c =
    c.as_slice.ensures ∙ ap calls_of (sym c.in-Call.is) ∙ sym (items-some c.args.inbox.now c.args.epoch stage.Call calls_of c.args.sender c.in-Some.batch.now (sym c.in-Some.ensures.found))

pub returns-in_default : goal.returns-in_default
returns-in_default g c =
    sym (items-some c.args.inbox.now c.args.epoch stage.Call calls_of c.args.sender c.in-Some.batch.now (sym c.in-Some.ensures.found) ∙ calls-other c.in-Some.batch.now.body c.in_default.not-Call)

pub returns-in-None : goal.returns-in-None
returns-in-None g c = sym (items-none c.args.inbox.now c.args.epoch stage.Call calls_of c.args.sender (sym c.in-None.ensures.found))
