use Rattle.gr_log.specs.Log.{empty_log, cut_log}
use Rattle.gr_core.proofs.Changed.{ChangedBelow}
use Rattle.gr_core.proofs.cluster.back.cut_tails.Given as goal

abbrev pub invariant-loop-p : goal.invariant-loop-p
invariant-loop-p l = ChangedBelow l.places (λ _. cut_log) l.fn.logs.items empty_log l.p l.logs.items
