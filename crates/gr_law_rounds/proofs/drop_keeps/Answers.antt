use Rattle.gr_law_rounds.proofs.Network.Kept.{drop-kept}
use Rattle.gr_law_rounds.proofs.drop_keeps.Goals as goal

pub returns : goal.returns
returns g c = λ P t c i agree. drop-kept P t c agree i
