use Rattle.gr_law_runs.proofs.Bounds.ToGo.{to_go-bounded}
use Rattle.gr_law_runs.proofs.to_go_is_bounded.Goals as goal

pub returns : goal.returns
returns g c = λ P c I. to_go-bounded P c I
