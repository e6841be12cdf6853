use Rattle.std.proofs.Common.{◌∙◌, sym, ap}
use Rattle.gr_batch.specs.declared.stage.Stage.TheVariants as stage
use Rattle.gr_batch.specs.Bodies.{grants_of}
use Rattle.gr_round.proofs.Senders.{items-some, items-none}
use Rattle.gr_rebuild.proofs.Others.{grants-other}
use Rattle.gr_rebuild.proofs.granting.grants_from.Goals as goal

pub returns-in-Grant : goal.returns-in-Grant
returns-in-Grant g c =
    c.as_slice.ensures ∙ ap grants_of (sym c.in-Grant.is) ∙ sym (items-some c.args.inbox.now c.args.epoch stage.Grant grants_of c.args.sender c.in-Some.batch.now (sym c.in-Some.ensures.found))

pub returns-in_default : goal.returns-in_default
returns-in_default g c =
    sym (items-some c.args.inbox.now c.args.epoch stage.Grant grants_of c.args.sender c.in-Some.batch.now (sym c.in-Some.ensures.found) ∙ grants-other c.in-Some.batch.now.body c.in_default.not-Grant)

pub returns-in-None : goal.returns-in-None
returns-in-None g c = sym (items-none c.args.inbox.now c.args.epoch stage.Grant grants_of c.args.sender (sym c.in-None.ensures.found))
