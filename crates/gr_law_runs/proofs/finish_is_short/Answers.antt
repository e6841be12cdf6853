use Rattle.gr_law_runs.proofs.Bounds.Short.{finish-short}
use Rattle.gr_law_runs.proofs.finish_is_short.Goals as goal

pub returns : goal.returns
returns g c = λ P laws c played end invariant run. finish-short P laws c played end invariant run
