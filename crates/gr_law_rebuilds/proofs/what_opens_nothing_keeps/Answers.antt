use Rattle.gr_law_rebuilds.proofs.Epoch.Unopened.{unopened-kept}
use Rattle.gr_law_rebuilds.proofs.what_opens_nothing_keeps.Goals as goal

pub returns : goal.returns
returns g c = λ P t c e agree order same. unopened-kept P t c agree e order same
