-- A committed state, and the view by which it is rebuilt.
use Rattle.std.specs.Prelude.{ℕ, ◌≡◌, ◌<◌, ◌≤◌, true, false}
use Rattle.gr_base.specs.Rising.{has, includes}
use Rattle.gr_base.specs.Places.{IsPlaces}
use Rattle.gr_copies.specs.declared.view.RebuildView.{RebuildView}
use Rattle.gr_agree.specs.Truth.{Truth, held}

pub record Fits {V : Type 0} (w : RebuildView) (t : Truth V) : Type 0 where
  pub few : w.places ≤ 64
  -- reborn places are dead
  pub reborn_dead : (p : ℕ) → has w.reborn p ≡ true → has w.dead p ≡ true
  -- a vertex has a set of holders, with its master among them
  pub holders : (v : ℕ) → has t.vertices v ≡ true → IsPlaces (t.holders v)
  pub master_holds : (v : ℕ) → has t.vertices v ≡ true → held t (t.master v) v ≡ true
  -- each holder is a place, and live where it is not dead
  pub within : (v q : ℕ) → has t.vertices v ≡ true → held t q v ≡ true → q < w.places
  pub live : (v q : ℕ) → has t.vertices v ≡ true → held t q v ≡ true → has w.dead q ≡ false → has w.live q ≡ true
  -- and not all are dead
  pub left : (v : ℕ) → has t.vertices v ≡ true → includes w.dead (t.holders v) ≡ false
