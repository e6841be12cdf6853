use Rattle.gr_law_runs.proofs.Left.Bounded.{left-bounded}
use Rattle.gr_law_runs.proofs.what_is_left_is_bounded.Goals as goal

pub returns : goal.returns
returns g c = λ P c I. left-bounded P I.0 c I.1
