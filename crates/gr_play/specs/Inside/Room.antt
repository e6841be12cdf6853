-- Room in the counts of a cluster for the steps to come.
use Rattle.std.specs.Prelude.{ℕ, ◌+◌, ◌-◌, ◌*◌, ◌^◌, ◌<◌, ◌≤◌, length}
use Rattle.gr_cluster.specs.Tables.{Cluster}
use Rattle.gr_cluster.specs.ToGo.{most_added, to_go}

-- room for one step
pub record HasRoom {V A : Type 0} (c : Cluster V A) (taken : ℕ) : Type 0 where
  pub steps : taken < 2 ^ 64 - 1
  pub serial : c.serial < 2 ^ 64 - 1
  pub epoch : c.coordinator.epoch < 2 ^ 64 - 1
  pub commits : c.coordinator.commits < 2 ^ 64 - 1
  pub flight : length c.flight < 2 ^ 32 - 1

-- room for so many event lines, and for all canonical events between them
pub record HasRoomFor {V A : Type 0} (c : Cluster V A) (taken lines : ℕ) : Type 0 where
  pub few : lines ≤ 200000
  pub steps : taken + to_go c + most_added * lines < 2 ^ 63
  pub serial : c.serial + to_go c + most_added * lines < 2 ^ 63
  pub epoch : c.coordinator.epoch + to_go c + most_added * lines < 2 ^ 63
  pub commits : c.coordinator.commits + to_go c + most_added * lines < 2 ^ 63
  pub flight : length c.flight + lines ≤ 400001
