use Rattle.gr_batch.proofs.Fields.{no-value}
use Rattle.gr_batch.proofs.field.value_at.Goals as goal

pub returns-in_err-there-clause-absent : goal.returns-in_err-there-clause-absent
returns-in_err-there-clause-absent g c = rw c.from_residual.ensures (no-value g.V.Datum.numbers_of c.args.numbers.now c.in_err-there.ensures.absent)
