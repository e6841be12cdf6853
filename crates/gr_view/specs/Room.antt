-- Room in the numbers of a coordinator for one decision.
use Rattle.std.specs.Prelude.{◌+◌, ◌-◌, ◌^◌, ◌<◌, ◌≤◌, length}
use Rattle.gr_view.specs.declared.coordinator.Coordinator.{Coordinator}

-- a decision raises the epoch, the commits and the rounds by one at most, and takes back no more spares than there are reborn places
pub record HasRoom (co : Coordinator) : Type 0 where
  pub epoch : co.epoch < 2 ^ 64 - 1
  pub commits : co.commits < 2 ^ 64 - 1
  pub rounds : co.round < 2 ^ 32 - 1
  pub spares : co.spares + length co.reborn ≤ 255
