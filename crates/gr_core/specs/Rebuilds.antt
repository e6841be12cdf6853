-- What a place has to do while a rebuild is open.
use Rattle.std.specs.Prelude.{ℕ, ◌≡◌, IsTrue, Some}
use Rattle.gr_view.specs.Modes.{is_rebuild}
use Rattle.gr_rules.specs.Todo.{Todo}
use Rattle.gr_cluster.specs.Tables.{Host, Cluster, host}
use Rattle.gr_cluster.specs.Todo.{todo}

-- a rebuild is open, and the place p is up, has installed every commit and adopted the epoch, and has this to do next
pub record HasToDo {V A : Type 0} (c : Cluster V A) (p : ℕ) (x : Todo) : Type 0 where
  pub rebuilding : IsTrue (is_rebuild c.coordinator.mode)
  pub at : Host V A
  pub is : host c p ≡ Some at
  pub installed : at.installed ≡ c.coordinator.commits
  pub now : at.epoch ≡ c.coordinator.epoch
  pub next : todo c.coordinator p at ≡ x
