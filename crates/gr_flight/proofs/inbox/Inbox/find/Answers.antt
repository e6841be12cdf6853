use Rattle.std.proofs.Common.{sym}
use Rattle.gr_lists.proofs.Any.{find-none}
use Rattle.gr_batch.specs.Bodies.{is_of}
use Rattle.gr_flight.proofs.inbox.Inbox.find.Goals as goal

pub returns-then-lacks-clause-found : goal.returns-then-lacks-clause-found
returns-then-lacks-clause-found g c = sym (find-none (is_of c.args.sender c.args.epoch c.args.stage) c.args.self.now (c.lacks.ensures c.if-lacks.true))

pub returns-then-lacks-clause-once : goal.returns-then-lacks-clause-once
returns-then-lacks-clause-once g c = rw (← c.self.view_is) c.self.invariant.0

pub returns-clause-once : goal.returns-clause-once
returns-clause-once g c = rw (← c.self.view_is) c.self.invariant.0

pub returns-in-Some-clause-once : goal.returns-in-Some-clause-once
returns-in-Some-clause-once g c = rw (← c.self.view_is) c.self.invariant.0
