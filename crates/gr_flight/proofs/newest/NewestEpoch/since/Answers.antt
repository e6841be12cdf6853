use Rattle.std.proofs.Common.{◌≡◌, []}
use Rattle.gr_flight.proofs.Senders.{knows-later}
use Rattle.gr_flight.proofs.newest.NewestEpoch.since.Goals as goal

pub returns-then-self-epoch-clause-senders : goal.returns-then-self-epoch-clause-senders
returns-then-self-epoch-clause-senders g c = λ xs K. let none : c.none.result ≡ [] = c.none.ensures in rw none (knows-later c.args.self c.args.epoch xs c.if-self-epoch.true K)
