use Rattle.gr_log.specs.Log.{empty_log, committed_log}
use Rattle.gr_core.proofs.Changed.{ChangedBelow}
use Rattle.gr_core.proofs.cluster.barrier.commit_logs.Given as goal

abbrev pub invariant-loop-p : goal.invariant-loop-p
invariant-loop-p l = ChangedBelow l.places (λ _. committed_log) l.fn.logs.items empty_log l.p l.logs.items
