use Rattle.gr_law_runs.proofs.Runs.Schedules.{schedule-result}
use Rattle.gr_law_runs.proofs.plain_schedules_give_the_result.Goals as goal

pub returns : goal.returns
returns g c = λ P laws s es vs setting graph ls plain n done. schedule-result P laws s es vs setting graph ls plain n done
