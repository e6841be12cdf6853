use Rattle.gr_batch.specs.Spelling.{number_bytes}
use Rattle.gr_batch.proofs.Apart.{no-list}
use Rattle.gr_batch.proofs.Lists.{some-left}
use Rattle.gr_batch.proofs.Numbers.{IsWord, numbers-apart, shorter}
use Rattle.gr_batch.proofs.number.numbers_in.Goals as goal

pub returns-in-None-clause-absent : goal.returns-in-None-clause-absent
returns-in-None-clause-absent c = λ ns small e.
    no-list number_bytes IsWord numbers-apart c.loop-rest.numbers.items ns c.args.bytes.now c.loop-rest.rest.now c.loop-rest.invariant.parts c.loop-rest.invariant.each (some-left c.loop-rest.rest.now c.loop-rest-test.ensures) c.in-None.ensures.absent small e

pub loop-rest-smaller : goal.loop-rest-smaller
loop-rest-smaller c = shorter c.in-Some.number c.loop-rest.rest.now c.in-Some.after.now c.in-Some.ensures.found.parts
