use Rattle.gr_law_runs.proofs.Runs.Results.{plain-result}
use Rattle.gr_law_runs.proofs.plain_runs_give_the_result.Goals as goal

pub returns : goal.returns
returns g c = λ P laws s es vs setting graph events plain done. plain-result P laws s es vs setting graph events plain done
