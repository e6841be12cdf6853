use Rattle.gr_law_rebuilds.proofs.Epoch.Recovery.{recovery-later}
use Rattle.gr_law_rebuilds.proofs.a_recovery_keeps.Goals as goal

pub returns : goal.returns
returns g c = λ P t c ps are agree new. recovery-later P t c agree ps are new
