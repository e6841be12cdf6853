-- What the steps of a call add to a trace, and that it counts no load.
use Rattle.std.specs.Prelude.{ℕ, ◌≡◌, List}
use Rattle.gr_program.specs.Program.{Program}
use Rattle.gr_batch.specs.Telling.{Telling}
use Rattle.gr_outside.specs.Files.{FilesSeen}
use Rattle.gr_cluster.specs.Runs.{Position, steps_of}
use Rattle.gr_cluster.specs.TraceText.{trace_text}

-- the text of the first steps from a position
abbrev pub text_of_steps : {V A : Type 0} → Program V A → Telling V A → Position V A → ℕ → List ℕ
text_of_steps P T s steps = trace_text T (steps_of P steps s)

-- no load was counted
pub record CountsNoLoad (before after : FilesSeen) : Type 0 where
  pub load_faults : after.load_faults ≡ before.load_faults
  pub long_loads : after.long_loads ≡ before.long_loads
