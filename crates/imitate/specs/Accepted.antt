-- What was read, and what a cluster needs of it.
use Rattle.std.specs.Prelude.{◌<◌, ◌≤◌, ◌^◌, IsTrue, length}
use Rattle.std.specs.List.{All, AllByRecursion as Each}
use Rattle.gr_edges.specs.Reading as edges
use Rattle.gr_edges.specs.Vertices.{ids}
use Rattle.gr_job.specs.Values.{values_of}
use Rattle.gr_sched.specs.Reading as sched
use Rattle.imitate.specs.declared.reading.Work.{Work}
use Rattle.imitate.specs.declared.reading.Accepted.{Accepted}
use Rattle.imitate.specs.Reading.{Task, Plan}

-- what was read
abbrev pub task_in : Work → Task
task_in work = record { job = values_of work.job; edges = work.graph.edges; vertices = ids work.graph.vertices }

abbrev pub plan_in : Accepted → Plan
plan_in a = record { task = task_in a.work; lines = a.lines }

-- what a cluster needs of what was read: ids of 32 bits, graph and schedule within their limits, and lines for its places
pub record IsPlayable (a : Accepted) : Type 0 where
  pub ids_fit : Each (λ v. v < 2 ^ 32) (ids a.work.graph.vertices)
  pub few_edges : length a.work.graph.edges ≤ edges.max_edges
  pub few_vertices : length a.work.graph.vertices ≤ edges.max_vertices
  pub few_lines : length a.lines ≤ sched.max_events
  pub placed : All (λ l. IsTrue (sched.are_below a.work.job.places (sched.places_of l))) a.lines
