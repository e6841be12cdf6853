use Rattle.gr_law_rounds.proofs.Network.Kept.{deliver-kept}
use Rattle.gr_law_rounds.proofs.delivery_keeps.Goals as goal

pub returns : goal.returns
returns g c = λ P t c i agree. deliver-kept P t c agree i
