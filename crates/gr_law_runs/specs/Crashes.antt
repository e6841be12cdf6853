-- That a schedule with few crash lines stays within the budget of losses.
use Rattle.std.specs.Prelude.{ℕ, ◌<◌, ◌≤◌, List}
use Rattle.std.specs.List.{AllByRecursion as Each}
use Rattle.gr_base.specs.declared.records.Edge.{Edge}
use Rattle.gr_program.specs.Program.{Program}
use Rattle.gr_program.specs.ProgramLaws.{ProgramLaws}
use Rattle.gr_sched.specs.declared.event.Line.{Line}
use Rattle.gr_cluster.specs.Load.{Setting, load}
use Rattle.gr_cluster.specs.Budget.{IsWithinBudget}
use Rattle.gr_agree.specs.Accepted.{IsGraph, IsSetting, NamesPlacesAt}
use Rattle.gr_law_runs.specs.CrashLines.{crash_lines}

-- a run from load is within its budget where its crash lines are no more than the losses that the job bears, and fewer than the places
abbrev pub FewCrashesAreBorne : (V A : Type 0) → Type 0
FewCrashesAreBorne V A =
    (P : Program V A) → ProgramLaws P → (s : Setting) (es : List Edge) (vs : List ℕ) (ls : List Line) → IsSetting s → IsGraph es vs → Each NamesPlacesAt ls
    → crash_lines ls ≤ s.losses → crash_lines ls < s.places → IsWithinBudget P (record { cluster = load P s es vs; lines = ls })
