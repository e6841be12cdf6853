use Rattle.std.proofs.Common.{◌++◌}
use Rattle.gr_batch.specs.Spelling.{number_bytes}
use Rattle.gr_batch.proofs.Numbers.{GoesOn}
use Rattle.gr_batch.proofs.number.push_number.Given as goal

abbrev pub invariant-loop-rest : goal.invariant-loop-rest
invariant-loop-rest l = GoesOn l.bytes.items l.rest (l.fn.bytes.items ++ number_bytes l.number)

abbrev pub decreases-loop-rest : goal.decreases-loop-rest
decreases-loop-rest l = l.rest
