use Rattle.std.proofs.Common.{◌∙◌}
use Rattle.gr_batch.proofs.Lists.{appended-next}
use Rattle.gr_batch.proofs.item.push_datum.Goals as goal

pub loop-i-preserved : goal.loop-i-preserved
loop-i-preserved g c = c.in_ok-push.ensures.items ∙ appended-next c.args.numbers.now.items (g.D.Datum.numbers_of c.args.datum.now) c.loop-i.numbers.items c.loop-i.i c.number_at.result c.loop-i.invariant c.number_at.ensures
