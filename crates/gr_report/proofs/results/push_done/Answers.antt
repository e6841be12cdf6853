use Rattle.gr_report.proofs.Fronts.{front-kept}
use Rattle.gr_report.proofs.results.push_done.Goals as goal

pub returns-in_err-push_value-clause-err : goal.returns-in_err-push_value-clause-err
returns-in_err-push_value-clause-err g c = front-kept c.from_residual-in_err-push_value.result c.args.into.now.items _ c.loop-x.into.items c.push_value.new.into.items c.loop-x.invariant c.in_err-push_value.ensures.err
