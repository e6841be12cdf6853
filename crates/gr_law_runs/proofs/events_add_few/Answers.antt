use Rattle.gr_law_runs.proofs.Ends.Events.{invariant-after}
use Rattle.gr_law_runs.proofs.Bounds.ToGo.{to_go-added}
use Rattle.gr_law_runs.proofs.events_add_few.Goals as goal

pub returns : goal.returns
returns g c = λ P laws c e names I. to_go-added P c e I (invariant-after P laws I.0 c I.1 e names).0
