use Rattle.gr_law_runs.proofs.Bounds.ToGo.{canonical-goes}
use Rattle.gr_law_runs.proofs.canonical_events_go_on.Goals as goal

pub returns : goal.returns
returns g c = λ P laws c e I is. canonical-goes P laws c e I is
