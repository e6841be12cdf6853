use Rattle.std.proofs.Common.{◌≡◌, ◌<◌, ℕ, false}
use Rattle.gr_cluster.specs.Tables.{host}
use Rattle.gr_cluster.specs.Todo.{can_work}
use Rattle.gr_core.proofs.cluster.Cluster.first_worker.Given as goal

abbrev pub invariant-loop-p : goal.invariant-loop-p
invariant-loop-p g l = (q : ℕ) → q < l.p → can_work l.self.cluster.coordinator q (host l.self.cluster q) ≡ false
