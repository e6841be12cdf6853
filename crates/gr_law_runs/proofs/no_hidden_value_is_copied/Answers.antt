use Rattle.gr_law_runs.proofs.Bounds.AlongRuns.{run-hidden}
use Rattle.gr_law_runs.proofs.no_hidden_value_is_copied.Goals as goal

pub returns : goal.returns
returns g c = λ P laws forgetful s es vs setting graph ls names n. run-hidden P laws forgetful es vs s setting graph ls names n
