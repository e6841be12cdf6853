use Rattle.gr_law_rounds.proofs.Commit.Barrier.{barrier-kept}
use Rattle.gr_law_rounds.proofs.a_barrier_that_decides_nothing_keeps.Goals as goal

pub returns : goal.returns
returns g c = λ P t c agree none same. barrier-kept P t c agree none same
