use Rattle.gr_law_runs.proofs.Left.Told.{step-told}
use Rattle.gr_law_runs.proofs.epochs_are_told.Goals as goal

pub returns : goal.returns
returns g c = λ P c e. step-told c P e
