use Rattle.gr_law_rebuilds.proofs.Epoch.Repair.{repair-kept}
use Rattle.gr_law_rebuilds.proofs.a_repair_keeps.Goals as goal

pub returns : goal.returns
returns g c = λ P t c agree new. repair-kept P t c agree new
