-- The tables, and the places that the coordinator knows of.
use Rattle.std.specs.Prelude.{ℕ, ◌+◌, ◌≡◌, ◌≢◌, ◌≤◌, Bool, true, false, nat_lt, cond, IsTrue, [], length}
use Rattle.gr_base.specs.Places.{IsPlaces}
use Rattle.gr_base.specs.Rising.{has}
use Rattle.gr_view.specs.declared.coordinator.Mode.{Mode}
use Rattle.gr_view.specs.declared.coordinator.Mode.TheVariants as mode
use Rattle.gr_view.specs.declared.coordinator.Coordinator.{Coordinator}

-- the tables have one entry for each place, and sets of places are sets
pub record Shaped (places host_count log_count : ℕ) (co : Coordinator) : Type 0 where
  pub few : places ≤ 64
  pub hosts : host_count ≡ places
  pub logs : log_count ≡ places
  pub live : IsPlaces co.live
  pub dead : IsPlaces co.dead
  pub retired : IsPlaces co.retired
  pub reborn : IsPlaces co.reborn
  pub ready : IsPlaces co.ready

-- in how many of the sets of live, dead and retired places a place stands
abbrev pub sets_with : Coordinator → ℕ → ℕ
sets_with co p = cond (has co.live p) 1 0 + cond (has co.dead p) 1 0 + cond (has co.retired p) 1 0

-- places may be dead from a failure to the end of its recovery
abbrev pub may_have_dead : Mode → Bool
may_have_dead mode.Failed = true
may_have_dead mode.Recovering = true
may_have_dead mode.Lost = true
may_have_dead _ = false

-- the sets of places fit the mode, and the machines that are up
pub record PlacesHold (places : ℕ) (is_up : ℕ → Bool) (co : Coordinator) : Type 0 where
  -- live, dead and retired places are all places, each in one set
  pub one_set : (p : ℕ) → sets_with co p ≡ cond (nat_lt p places) 1 0
  -- reborn places are dead
  pub reborn_dead : (p : ℕ) → IsTrue (has co.reborn p) → IsTrue (has co.dead p)
  -- no place is dead while rounds run, during a repair and at the end
  pub none_dead : may_have_dead co.mode ≡ false → co.dead ≡ []
  -- a place is reborn in a recovery alone
  pub none_reborn : co.mode ≢ mode.Recovering → co.reborn ≡ []
  -- a retired place is down, and so is a dead place that is not reborn
  pub retired_down : (p : ℕ) → IsTrue (has co.retired p) → is_up p ≡ false
  pub dead_down : (p : ℕ) → IsTrue (has co.dead p) → has co.reborn p ≡ false → is_up p ≡ false
  -- at the end every live place is up
  pub done_up : co.mode ≡ mode.Done → (p : ℕ) → IsTrue (has co.live p) → IsTrue (is_up p)
  -- a byte counts the spares, also when all hosts of reborn places go back
  pub spares : co.spares + length co.reborn ≤ 255
