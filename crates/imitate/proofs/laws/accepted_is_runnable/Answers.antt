use Rattle.imitate.proofs.Accepted.{accepted-runnable}
use Rattle.imitate.proofs.laws.accepted_is_runnable.Goals as goal

pub returns : goal.returns
returns c = accepted-runnable
