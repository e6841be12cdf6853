use Rattle.gr_law_runs.proofs.Left.Less.{step-keeps}
use Rattle.gr_law_runs.proofs.no_event_leaves_more.Goals as goal

pub returns : goal.returns
returns g c = λ P laws c e I same. step-keeps P I.0 c I.1 e same
