use Rattle.gr_law_runs.proofs.Events.Limit.{limit-step}
use Rattle.gr_law_runs.proofs.Events.Events.{event-agrees}
use Rattle.gr_law_runs.proofs.every_event_keeps_but_in_a_rebuild.Goals as goal

pub returns : goal.returns
returns g c = λ P laws t c e names agree off. (event-agrees P laws t c agree e names off, limit-step P c e)
