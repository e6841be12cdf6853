use Rattle.gr_law_rebuilds.proofs.Loss.Loss.{loss-kept}
use Rattle.gr_law_rebuilds.proofs.a_loss_keeps.Goals as goal

pub returns : goal.returns
returns g c = λ P laws t c p n agree crash. loss-kept P t c p n agree crash
