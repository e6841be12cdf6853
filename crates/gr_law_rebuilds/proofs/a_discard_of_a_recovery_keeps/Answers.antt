use Rattle.gr_law_rebuilds.proofs.Epoch.Discard.{discard-later}
use Rattle.gr_law_rebuilds.proofs.a_discard_of_a_recovery_keeps.Goals as goal

pub returns : goal.returns
returns g c = λ P t c agree yes. discard-later P t c agree yes
