use Rattle.gr_batch.specs.Telling.{telling}
use Rattle.gr_batch.proofs.Bodies.{signals, calls, asks, no-signals, no-calls, no-asks}
use Rattle.gr_batch.proofs.reading.body_in.Goals as goal

pub returns-in-None-3-clause-absent : goal.returns-in-None-3-clause-absent
returns-in-None-3-clause-absent g c = no-signals (telling g.V.Datum.numbers_of g.A.Datum.numbers_of) c.args.code c.args.numbers.now c.in_ok-items_in-in-2.field-0 c.in-None-3.is c.in-2.is c.in_ok-items_in-in-2.ensures.absent

pub returns-in-Some-3-clause-found : goal.returns-in-Some-3-clause-found
returns-in-Some-3-clause-found g c = signals (telling g.V.Datum.numbers_of g.A.Datum.numbers_of) c.args.code c.args.numbers.now c.in_ok-items_in-in-2.field-0 c.in-Some-3.items c.in-Some-3.is c.in-2.is c.in_ok-items_in-in-2.ensures.found

pub returns-in-None-4-clause-absent : goal.returns-in-None-4-clause-absent
returns-in-None-4-clause-absent g c = no-calls (telling g.V.Datum.numbers_of g.A.Datum.numbers_of) c.args.code c.args.numbers.now c.in_ok-items_in-in-3.field-0 c.in-None-4.is c.in-3.is c.in_ok-items_in-in-3.ensures.absent

pub returns-in-Some-4-clause-found : goal.returns-in-Some-4-clause-found
returns-in-Some-4-clause-found g c = calls (telling g.V.Datum.numbers_of g.A.Datum.numbers_of) c.args.code c.args.numbers.now c.in_ok-items_in-in-3.field-0 c.in-Some-4.items c.in-Some-4.is c.in-3.is c.in_ok-items_in-in-3.ensures.found

pub returns-in-None-5-clause-absent : goal.returns-in-None-5-clause-absent
returns-in-None-5-clause-absent g c = no-asks (telling g.V.Datum.numbers_of g.A.Datum.numbers_of) c.args.code c.args.numbers.now c.in_ok-items_in-in-4.field-0 c.in-None-5.is c.in-4.is c.in_ok-items_in-in-4.ensures.absent

pub returns-in-Some-5-clause-found : goal.returns-in-Some-5-clause-found
returns-in-Some-5-clause-found g c = asks (telling g.V.Datum.numbers_of g.A.Datum.numbers_of) c.args.code c.args.numbers.now c.in_ok-items_in-in-4.field-0 c.in-Some-5.items c.in-Some-5.is c.in-4.is c.in_ok-items_in-in-4.ensures.found
