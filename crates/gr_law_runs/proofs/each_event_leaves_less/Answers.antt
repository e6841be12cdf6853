use Rattle.gr_law_runs.proofs.Left.Less.{canonical-leaves-less}
use Rattle.gr_law_runs.proofs.each_event_leaves_less.Goals as goal

pub returns : goal.returns
returns g c = λ P laws c e I is. canonical-leaves-less P I.0 c I.1 e is
