use Rattle.gr_law_runs.proofs.Bounds.Crashes.{few-borne}
use Rattle.gr_law_runs.proofs.few_crashes_are_borne.Goals as goal

pub returns : goal.returns
returns g c = λ P laws s es vs ls setting graph names few fewer. few-borne P laws s es vs ls setting graph names few fewer
