use Rattle.std.proofs.Common.{◌≡◌}
use Rattle.gr_batch.specs.declared.stage.Stage.TheVariants as stage
use Rattle.gr_batch.specs.Bodies.{grants_of}
use Rattle.gr_rebuild.proofs.Senders.{gathered, items_from}
use Rattle.gr_rebuild.proofs.granting.sent_copies.Given as goal

abbrev pub invariant-loop-q : goal.invariant-loop-q
invariant-loop-q g l = l.copies ≡ gathered (items_from l.inbox l.epoch stage.Grant grants_of) l.others l.q
