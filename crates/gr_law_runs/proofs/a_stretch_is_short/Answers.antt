use Rattle.gr_law_runs.proofs.Bounds.Stretch.{stretch-short}
use Rattle.gr_law_runs.proofs.a_stretch_is_short.Goals as goal

pub returns : goal.returns
returns g c = λ P laws c n invariant played same. stretch-short P laws c n invariant played same
