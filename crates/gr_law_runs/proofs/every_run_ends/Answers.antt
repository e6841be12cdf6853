use Rattle.gr_law_runs.proofs.Bounds.EveryRun.{run-ends}
use Rattle.gr_law_runs.proofs.every_run_ends.Goals as goal

pub returns : goal.returns
returns g c = λ P laws c ls names invariant. run-ends P laws ls names c invariant
