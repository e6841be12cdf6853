-- What a call adds to the trace.
use Rattle.std.specs.Prelude.{ℕ, ◌≡◌, ◌≤◌, ◌++◌, Bool, false, List, IsTrue}
use Rattle.gr_outside.specs.Files.{FilesSeen}
use Rattle.gr_play.specs.Tracing.{Traces}
use Rattle.gr_play.specs.TracedSteps.{CountsNoLoad}

-- whatever the trace holds, it holds this text besides
abbrev pub GainsTrace : FilesSeen → FilesSeen → List ℕ → Type 0
GainsTrace before after text = (base : FilesSeen) (name had : List ℕ) → Traces base before name had → Traces base after name (had ++ text)

-- what a call adds to the trace, where there is one
pub record Adds (traced : Bool) (before after : FilesSeen) (text : List ℕ) : Type 0 where
  pub gained : IsTrue traced → GainsTrace before after text
  pub untraced : traced ≡ false → after ≡ before
  pub begun : after.is_begun ≡ before.is_begun
  pub loads : CountsNoLoad before after
  pub later : before.write_faults ≤ after.write_faults
