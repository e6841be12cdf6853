-- The places that are known to have no work.
use Rattle.std.specs.Prelude.{ℕ, true, false, ◌≡◌, List}
use Rattle.gr_base.specs.Rising.{has}
use Rattle.gr_cluster.specs.Tables.{Cluster, host}
use Rattle.gr_cluster.specs.Todo.{can_work}

-- none of these places can work
abbrev pub AreAtRest : {V A : Type 0} → Cluster V A → List ℕ → Type 0
AreAtRest c places = (p : ℕ) → has places p ≡ true → can_work c.coordinator p (host c p) ≡ false
