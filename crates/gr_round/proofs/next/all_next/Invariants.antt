use Rattle.std.proofs.Common.{◌++◌, eqb, flat_map}
use Rattle.gr_batch.specs.declared.stage.Stage.TheVariants as stage
use Rattle.gr_batch.specs.Bodies.{signals_of, calls_of}
use Rattle.gr_rules.specs.Inbox.{bodies}
use Rattle.gr_signal.specs.Signals.{signals_to}
use Rattle.gr_round.proofs.Known.{TakenBelow}
use Rattle.gr_round.proofs.next.all_next.Given as goal

abbrev pub invariant-loop-p : goal.invariant-loop-p
invariant-loop-p g l =
    TakenBelow l.inbox l.party.epoch stage.Call calls_of (λ v x. eqb x v) l.party.others (signals_to l.targets l.party.place ++ flat_map signals_of (bodies l.inbox l.party.epoch stage.Signal l.party.others)) l.next l.p
