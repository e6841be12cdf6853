use Rattle.gr_law_runs.proofs.Ends.Runs.{run-stays}
use Rattle.gr_law_runs.proofs.every_run_agrees.Goals as goal

pub returns : goal.returns
returns g c = λ P laws s es vs setting graph ls names n. run-stays P laws s es vs setting graph ls names n
