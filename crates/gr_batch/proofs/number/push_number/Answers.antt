use Rattle.std.proofs.Common.{◌++◌}
use Rattle.gr_batch.specs.Spelling.{number_bytes}
use Rattle.gr_batch.proofs.Numbers.{begins, goes_on}
use Rattle.gr_batch.proofs.number.push_number.Goals as goal

pub loop-rest-init : goal.loop-rest-init
loop-rest-init c = begins c.args.bytes.now.items c.args.number c.ranges.number.fits

pub loop-rest-preserved : goal.loop-rest-preserved
loop-rest-preserved c = rw c.in_ok-push.ensures.items (goes_on c.loop-rest.bytes.items c.loop-rest.rest (c.args.bytes.now.items ++ number_bytes c.args.number) c.loop-rest-test.true c.loop-rest.invariant)
