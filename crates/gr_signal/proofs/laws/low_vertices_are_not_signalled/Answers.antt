use Rattle.gr_signal.proofs.Lows.{low-not-signalled}
use Rattle.gr_signal.proofs.laws.low_vertices_are_not_signalled.Goals as goal

pub returns : goal.returns
returns g c = low-not-signalled
