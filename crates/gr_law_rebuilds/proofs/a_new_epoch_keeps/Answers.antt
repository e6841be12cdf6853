use Rattle.gr_law_rebuilds.proofs.Epoch.Whole.{new_epoch-later}
use Rattle.gr_law_rebuilds.proofs.a_new_epoch_keeps.Goals as goal

pub returns : goal.returns
returns g c = λ P laws t c e names agree none new. new_epoch-later P t c agree e names none new
