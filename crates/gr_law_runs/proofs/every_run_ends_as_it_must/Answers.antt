use Rattle.gr_law_runs.proofs.Ends.Ends.{ends-as-it-must}
use Rattle.gr_law_runs.proofs.every_run_ends_as_it_must.Goals as goal

pub returns : goal.returns
returns g c = λ P text s es vs ls played end run. ends-as-it-must P text s es vs ls played end run
