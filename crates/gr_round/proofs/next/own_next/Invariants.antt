use Rattle.std.proofs.Common.{eqb}
use Rattle.gr_batch.specs.declared.stage.Stage.TheVariants as stage
use Rattle.gr_batch.specs.Bodies.{signals_of}
use Rattle.gr_signal.specs.Signals.{signals_to}
use Rattle.gr_round.proofs.Known.{TakenBelow}
use Rattle.gr_round.proofs.next.own_next.Given as goal

abbrev pub invariant-loop-p : goal.invariant-loop-p
invariant-loop-p g l =
    TakenBelow l.inbox l.party.epoch stage.Signal signals_of (λ v x. eqb x v) l.party.others (signals_to l.targets l.party.place) l.next l.p
