use Rattle.gr_law_runs.proofs.Runs.Plain.{plain-undisturbed}
use Rattle.gr_law_runs.proofs.plain_events_disturb_nothing.Goals as goal

pub returns : goal.returns
returns g c = λ P laws t k e plain U. plain-undisturbed P laws t k e plain U
