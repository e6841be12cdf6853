use Rattle.std.proofs.Common.{arith}
use Rattle.gr_batch.specs.Telling.{telling}
use Rattle.gr_batch.proofs.Batches.{no-head, batch-found}
use Rattle.gr_batch.proofs.reading.batch_in.Goals as goal

pub returns-in-None-clause-absent : goal.returns-in-None-clause-absent
returns-in-None-clause-absent g c = no-head (telling g.V.Datum.numbers_of g.A.Datum.numbers_of) c.args.numbers.now c.in-None.ensures.absent

pub returns-in-Some-2-clause-found : goal.returns-in-Some-2-clause-found
returns-in-Some-2-clause-found g c =
    batch-found (telling g.V.Datum.numbers_of g.A.Datum.numbers_of) c.args.numbers.now c.in-Some.front.0 c.in-Some.front.1.now c.in-Some-2.body (λ i. omega (arith, c.type_inv.numbers i)) c.in-Some.ensures.found
    (rw c.in-Some-2.is at c.in_ok-body_in-in-Some.ensures.found)
