use Rattle.std.proofs.Common.{arith}
use Rattle.gr_batch.proofs.Words.{holds-start, holds-on, holds-off, holds-end}
use Rattle.gr_batch.proofs.holders.places_of.Goals as goal
use Rattle.gr_batch.proofs.holders.places_of.Goals.{then-rest-eq1, else-rest-eq1}

pub loop-p-init : goal.loop-p-init
loop-p-init c = rw c.none-places.ensures (holds-start c.args.word)

pub loop-p-preserved : goal.loop-p-preserved
loop-p-preserved c = elim c.if-rest-eq1.branch [
  | then-rest-eq1 w ↦ rw (w.places-is, w.with-places.ensures) (holds-on c.args.word c.loop-p.places c.loop-p.rest c.loop-p.p c.loop-p.invariant w.if-rest-eq1.true)
  | else-rest-eq1 w ↦ rw w.places-is (holds-off c.args.word c.loop-p.places c.loop-p.rest c.loop-p.p c.loop-p.invariant w.if-rest-eq1.false)
]

pub returns : goal.returns
returns c =
    let end = holds-end c.args.word c.loop-p.places c.loop-p.rest c.loop-p.p (omega arith) c.ranges.word.fits c.loop-p.invariant in
    record { places = end.0; word = end.1 }
