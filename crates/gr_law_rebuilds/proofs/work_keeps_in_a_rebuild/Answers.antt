use Rattle.gr_law_rebuilds.proofs.Rebuild.Work.{work-kept}
use Rattle.gr_law_rebuilds.proofs.work_keeps_in_a_rebuild.Goals as goal

pub returns : goal.returns
returns g c = λ P t c p agree rebuilding. work-kept P t c agree rebuilding p
