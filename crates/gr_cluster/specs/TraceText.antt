-- The trace of a run: a line for each step.
use Rattle.std.specs.Prelude.{ℕ, List, flat_map}
use Rattle.gr_batch.specs.Telling.{Telling}
use Rattle.gr_report.specs.Trace.{outcome_line}
use Rattle.gr_cluster.specs.Runs.{Played}

module _ {V A : Type 0} (T : Telling V A) where
  abbrev pub trace_line : Played V A → List ℕ
  trace_line s = outcome_line T s.event s.outcome

  unfoldable pub trace_text : List (Played V A) → List ℕ
  trace_text steps = flat_map trace_line steps
