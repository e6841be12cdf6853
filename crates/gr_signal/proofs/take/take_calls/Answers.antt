use Rattle.gr_rules.specs.Rows.{with_due}
use Rattle.gr_signal.proofs.take.take_calls.Goals as goal

pub returns : goal.returns
unfolding with_due
returns g c = c.stage_due.ensures
