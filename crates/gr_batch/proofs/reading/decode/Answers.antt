use Rattle.gr_batch.specs.Telling.{telling}
use Rattle.gr_batch.proofs.Batches.{no-numbers, bytes-found, bytes-absent}
use Rattle.gr_batch.proofs.reading.decode.Goals as goal

pub returns-in-None-clause-absent : goal.returns-in-None-clause-absent
returns-in-None-clause-absent g c = no-numbers (telling g.V.Datum.numbers_of g.A.Datum.numbers_of) c.args.bytes.now (rw c.in-None.is at c.in_ok-numbers_in.ensures.absent)

pub returns-in-Some-clause-found : goal.returns-in-Some-clause-found
returns-in-Some-clause-found g c =
    let numbers = rw c.in-Some.is at c.in_ok-numbers_in.ensures.found in
    bytes-found (telling g.V.Datum.numbers_of g.A.Datum.numbers_of) c.args.bytes.now c.in-Some.numbers.items numbers.0 numbers.1 c.batch_in.result (rw c.deref.ensures.value at c.batch_in.ensures.found)

pub returns-in-Some-clause-absent : goal.returns-in-Some-clause-absent
returns-in-Some-clause-absent g c =
    let numbers = rw c.in-Some.is at c.in_ok-numbers_in.ensures.found in
    bytes-absent (telling g.V.Datum.numbers_of g.A.Datum.numbers_of) c.args.bytes.now c.in-Some.numbers.items numbers.0 numbers.1 c.batch_in.result (rw c.deref.ensures.value at c.batch_in.ensures.absent)
