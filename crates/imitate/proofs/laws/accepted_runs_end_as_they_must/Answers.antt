use Rattle.imitate.proofs.Accepted.{accepted-ends}
use Rattle.imitate.proofs.laws.accepted_runs_end_as_they_must.Goals as goal

pub returns : goal.returns
returns c = accepted-ends
