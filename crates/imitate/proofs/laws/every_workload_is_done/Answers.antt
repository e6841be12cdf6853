use Rattle.imitate.proofs.Workloads.{workload-done}
use Rattle.imitate.proofs.laws.every_workload_is_done.Goals as goal

pub returns : goal.returns
returns c = workload-done
