use Rattle.gr_copies.proofs.Gathering.{IsGathered}
use Rattle.gr_copies.proofs.further.gather.Given as goal

abbrev pub invariant-loop-p : goal.invariant-loop-p
invariant-loop-p l = IsGathered l.fn.before.places l.candidates l.from l.p l.fn.before.missing l.places l.missing
