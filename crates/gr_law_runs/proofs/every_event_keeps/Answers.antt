use Rattle.gr_law_runs.proofs.Ends.Events.{invariant-after}
use Rattle.gr_law_runs.proofs.every_event_keeps.Goals as goal

pub returns : goal.returns
returns g c = λ P laws k e names I. invariant-after P laws I.0 k I.1 e names
