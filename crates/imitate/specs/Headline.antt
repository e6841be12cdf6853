-- What is promised of the whole run of files that the readers accept.
use Rattle.std.specs.Prelude.{◌≡◌, ℕ, List, Ok}
use Rattle.std.specs.List.{AllByRecursion as Each}
use Rattle.gr_program.specs.ProgramLaws.{ProgramLaws}
use Rattle.gr_agree.specs.Accepted.{IsGraph, IsSetting, NamesPlacesAt}
use Rattle.gr_agree.specs.Headline.{EndsAsItMust}
use Rattle.imitate.specs.Reading.{Plan, plan_of}
use Rattle.imitate.specs.Running.{setting_in, program_in, cluster_after, IsWholeAfter}

-- a plan that the promise is about: a lawful program, a job and a graph within their limits, and lines that name sets of places
pub record IsRunnable (plan : Plan) : Type 0 where
  pub laws : ProgramLaws (program_in plan).program
  pub setting : IsSetting (setting_in plan.task.job)
  pub graph : IsGraph plan.task.edges plan.task.vertices
  pub lines : Each NamesPlacesAt plan.lines

-- whatever bytes are accepted as a graph, a job and a schedule
abbrev pub AcceptedIsRunnable : Type 0
AcceptedIsRunnable = (graph job schedule : List ℕ) (plan : Plan) → plan_of graph job schedule ≡ Ok plan → IsRunnable plan

-- the run of a plan ended as it must, after so many steps
abbrev pub EndsRightly : Plan → ℕ → Type 0
EndsRightly plan steps =
    let c = program_in plan in
    EndsAsItMust c.program c.text (setting_in plan.task.job) plan.task.edges plan.task.vertices plan.lines (cluster_after plan steps)

-- whatever bytes are accepted, and however the events of the schedule interleave
abbrev pub AcceptedRunsEndAsTheyMust : Type 0
AcceptedRunsEndAsTheyMust =
    (graph job schedule : List ℕ) (plan : Plan) → plan_of graph job schedule ≡ Ok plan → (steps : ℕ) → IsWholeAfter plan steps → EndsRightly plan steps
