-- A whole run as one text: its trace, and what it prints at its end.
use Rattle.std.specs.Prelude.{ℕ, List, ◌∷◌, [], ◌++◌, decimal, codes, ◌==◌, if◌then◌else◌}
use Rattle.gr_base.specs.declared.records.Edge.{Edge}
use Rattle.gr_program.specs.Program.{Program}
use Rattle.gr_batch.specs.Telling.{Telling}
use Rattle.gr_sched.specs.declared.event.Line.{Line}
use Rattle.gr_cluster.specs.Tables.{Cluster}
use Rattle.gr_cluster.specs.Load.{Setting, load}
use Rattle.gr_cluster.specs.Runs.{Position, steps_of, position_after}
use Rattle.gr_cluster.specs.Ending.{ending_of, ending_text}
use Rattle.gr_cluster.specs.TraceText.{trace_text}

-- values and sums are told by themselves, and the greatest number prints as `inf`
abbrev pub telling : Telling ℕ ℕ
telling = record { value_numbers = λ x. x ∷ []; sum_numbers = λ a. a ∷ [] }

abbrev pub value_text : ℕ → List ℕ
value_text n = if n == 18446744073709551615 then codes "inf" else decimal n

-- a job of two places, one spare, one loss and 1000 rounds at most, and others like it
abbrev pub job : ℕ → ℕ → ℕ → Setting
job places spares losses = record { places = places; spares = spares; losses = losses; theta = 100; limit = 1000 }

module _ (P : Program ℕ ℕ) where
  abbrev pub begin : Setting → List Edge → List ℕ → List Line → Position ℕ ℕ
  begin s es vs ls = record { cluster = load P s es vs; lines = ls }

  abbrev pub printed : Cluster ℕ ℕ → List ℕ
  printed c = ending_text value_text c (ending_of c)

  -- the lines of the first n steps, and what is printed; a run with fewer lines is whole
  abbrev pub run_text : ℕ → Position ℕ ℕ → List ℕ
  run_text n s = trace_text telling (steps_of P n s) ++ printed (position_after P n s).cluster
