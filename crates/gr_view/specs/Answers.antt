-- When each answer of the coordinator comes.
use Rattle.std.specs.Prelude.{ℕ, Bool, true, false, ◌&&◌, ◌||◌, ◌≡◌, ◌↔◌, ◌==◌, List, length, Some}
use Rattle.gr_view.specs.declared.coordinator.Coordinator.{Coordinator}
use Rattle.gr_view.specs.declared.coordinator.Verdict.{Verdict}
use Rattle.gr_view.specs.declared.coordinator.Verdict.TheVariants as verdict
use Rattle.gr_view.specs.declared.coordinator.Opening.{Opening}
use Rattle.gr_view.specs.declared.coordinator.Opening.TheVariants as opening
use Rattle.gr_view.specs.Modes.{is_over, is_failed, is_open}
use Rattle.gr_view.specs.Decisions.{unready}

-- no place has crashed
abbrev pub none_crashed : List ℕ → Bool
none_crashed crashed = length crashed == 0

-- a failure is told exactly where the cluster is at work, or has failed, and places have crashed; it names exactly these
abbrev pub ToldFailed : Coordinator → List ℕ → Verdict → Type 0
ToldFailed co crashed v = (ps : List ℕ) → (v ≡ verdict.Failed ps) ↔ ((ps ≡ crashed) × (none_crashed crashed ≡ false) × (is_over co.mode ≡ false))

-- a party is told as not ready exactly where none has crashed, a round or a rebuild is open, and it is the least without a report
abbrev pub ToldNotReady : Coordinator → List ℕ → Verdict → Type 0
ToldNotReady co crashed v = (p : ℕ) → (v ≡ verdict.NotReady p) ↔ ((none_crashed crashed ≡ true) × (is_open co.mode ≡ true) × (unready co ≡ Some p))

-- nothing is to be decided exactly after the end, and after a failure where no further place has crashed
abbrev pub ToldIdle : Coordinator → List ℕ → Verdict → Type 0
ToldIdle co crashed v = (v ≡ verdict.Idle) ↔ (((is_failed co.mode && none_crashed crashed) || is_over co.mode) ≡ true)

abbrev pub opens_nothing : Opening → Bool
opens_nothing opening.Idle = true
opens_nothing _ = false

abbrev pub tells_loss : Opening → Bool
tells_loss opening.Lost = true
tells_loss _ = false
