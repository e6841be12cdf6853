use Rattle.std.proofs.Common.{None}
use Rattle.gr_core.proofs.Changed.{ChangedBelow}
use Rattle.gr_core.proofs.cluster.back.free_hosts.Given as goal

abbrev pub invariant-loop-p : goal.invariant-loop-p
invariant-loop-p g l = ChangedBelow l.places (λ _ _. None) l.fn.hosts.items None l.p l.hosts.items
