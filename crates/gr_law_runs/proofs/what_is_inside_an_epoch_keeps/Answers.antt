use Rattle.gr_law_runs.proofs.Inside.Inside.{inside-kept}
use Rattle.gr_law_runs.proofs.Inside.Mode.{inside-same}
use Rattle.gr_law_runs.proofs.what_is_inside_an_epoch_keeps.Goals as goal

pub returns : goal.returns
returns g c = λ P laws t c e names agree none same. let k = inside-kept P laws t c agree e none same in (k.0, inside-same P c e same, k.1)
