use Rattle.gr_batch.proofs.Words.{Holds}
use Rattle.gr_batch.proofs.holders.places_of.Given as goal

abbrev pub invariant-loop-p : goal.invariant-loop-p
invariant-loop-p l = Holds l.word l.places l.rest l.p
