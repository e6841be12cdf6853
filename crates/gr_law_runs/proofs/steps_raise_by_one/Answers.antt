use Rattle.gr_law_runs.proofs.Left.Counts.{step-counts}
use Rattle.gr_law_runs.proofs.steps_raise_by_one.Goals as goal

pub returns : goal.returns
returns g c = λ P c e. step-counts P c e
