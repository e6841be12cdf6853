use Rattle.gr_law_rebuilds.proofs.Epoch.Crashes.{barrier-later}
use Rattle.gr_law_rebuilds.proofs.a_failure_keeps.Goals as goal

pub returns : goal.returns
returns g c = λ P t c agree none new. barrier-later P t c agree none new
