use Rattle.gr_law_rounds.proofs.Round.Work.{work-kept}
use Rattle.gr_law_rounds.proofs.work_keeps_in_a_round.Goals as goal

pub returns : goal.returns
returns g c = λ P laws t c p agree no_rebuild. work-kept P laws t c agree no_rebuild p
