use Rattle.gr_law_rebuilds.proofs.Epoch.Discard.{discard-kept}
use Rattle.gr_law_rebuilds.proofs.a_discard_keeps.Goals as goal

pub returns : goal.returns
returns g c = λ P t c agree no new. discard-kept P t c agree no new
