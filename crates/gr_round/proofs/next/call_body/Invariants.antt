use Rattle.gr_batch.specs.declared.stage.Stage.TheVariants as stage
use Rattle.gr_batch.specs.Bodies.{signals_of}
use Rattle.gr_signal.specs.Signals.{signals_to}
use Rattle.gr_round.proofs.Called.{is_call_of}
use Rattle.gr_round.proofs.Known.{TakenBelow}
use Rattle.gr_round.proofs.next.call_body.Given as goal

abbrev pub invariant-loop-p : goal.invariant-loop-p
invariant-loop-p g l =
    TakenBelow l.given.inbox.now l.party.epoch stage.Signal signals_of (is_call_of l.rows.stable l.party.place l.to) l.party.others (signals_to l.targets l.party.place) l.called l.p
