use Rattle.std.proofs.Common.{◌∙◌, sym, ap}
use Rattle.gr_batch.specs.declared.stage.Stage.TheVariants as stage
use Rattle.gr_batch.specs.Bodies.{asks_of}
use Rattle.gr_round.proofs.Senders.{items-some, items-none}
use Rattle.gr_rebuild.proofs.Others.{asks-other}
use Rattle.gr_rebuild.proofs.asking.asks_from.Goals as goal

pub returns-in-Ask : goal.returns-in-Ask
returns-in-Ask g c =
    c.as_slice.ensures ∙ ap asks_of (sym c.in-Ask.is) ∙ sym (items-some c.args.inbox.now c.args.epoch stage.Ask asks_of c.args.sender c.in-Some.batch.now (sym c.in-Some.ensures.found))

pub returns-in_default : goal.returns-in_default
returns-in_default g c =
    sym (items-some c.args.inbox.now c.args.epoch stage.Ask asks_of c.args.sender c.in-Some.batch.now (sym c.in-Some.ensures.found) ∙ asks-other c.in-Some.batch.now.body c.in_default.not-Ask)

pub returns-in-None : goal.returns-in-None
returns-in-None g c = sym (items-none c.args.inbox.now c.args.epoch stage.Ask asks_of c.args.sender (sym c.in-None.ensures.found))
