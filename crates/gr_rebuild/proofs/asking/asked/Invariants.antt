use Rattle.std.proofs.Common.{◌≡◌}
use Rattle.gr_rebuild.specs.Asked.{asks_from}
use Rattle.gr_rebuild.proofs.Senders.{gathered}
use Rattle.gr_rebuild.proofs.asking.asked.Given as goal

abbrev pub invariant-loop-q : goal.invariant-loop-q
invariant-loop-q g l = l.asked ≡ gathered (asks_from l.inbox l.epoch) l.others l.q
