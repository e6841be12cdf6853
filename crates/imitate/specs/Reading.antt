-- What the bytes of a graph, a job and a schedule say, or why one of them is refused.
use Rattle.std.specs.Prelude.{ℕ, List, Option, Some, None, Result, Ok, Err}
use Rattle.gr_base.specs.declared.records.Edge.{Edge}
use Rattle.gr_edges.specs.declared.fault.GraphFault.{GraphFault}
use Rattle.gr_edges.specs.Reading as edges
use Rattle.gr_edges.specs.Vertices.{ids}
use Rattle.gr_job.specs.declared.fault.JobFault.{JobFault}
use Rattle.gr_job.specs.Job.{JobValues, job_of}
use Rattle.gr_sched.specs.declared.fault.SchedFault.{SchedFault}
use Rattle.gr_sched.specs.declared.line.LineFound.{LineFound}
use Rattle.gr_sched.specs.declared.event.Line.{Line}
use Rattle.gr_sched.specs.Reading as sched
use Rattle.imitate.specs.declared.refusal.Refusal.{Refusal}
use Rattle.imitate.specs.Refusals.{graph_refusal, job_refusal, schedule_refusal}
use Rattle.imitate.specs.Chosen.{chosen_text}

-- a job, and the edges and the rising vertices of a graph
pub record Task : Type 0 where
  pub job : JobValues
  pub edges : List Edge
  pub vertices : List ℕ

-- and the lines of a schedule
pub record Plan : Type 0 where
  pub task : Task
  pub lines : List Line

-- the graph is read as the job asks
abbrev pub after_graph : JobValues → List ℕ → Option GraphFault → Result Task Refusal
after_graph job graph (Some fault) = Err (graph_refusal fault)
after_graph job graph None =
    let lines = edges.lines_of graph in
    Ok (record { job = job; edges = edges.edges_of job.undirected lines; vertices = ids (edges.vertices_of job.undirected lines) })

-- the job is read before the graph
abbrev pub after_job : List ℕ → Result JobValues JobFault → Result Task Refusal
after_job graph (Err fault) = Err (job_refusal fault)
after_job graph (Ok job) = after_graph job graph (edges.first_fault job.undirected (edges.lines_of graph))

-- what a graph and a job say, or why one of them is refused
unfoldable pub task_of : List ℕ → List ℕ → Result Task Refusal
task_of graph job = after_job graph (job_of job)

abbrev pub after_schedule : Task → List LineFound → Option SchedFault → Result Plan Refusal
after_schedule task found (Some fault) = Err (schedule_refusal fault)
after_schedule task found None = Ok (record { task = task; lines = sched.schedule_of found })

-- the schedule is read last, for the places of the job
abbrev pub after_task : List ℕ → Result Task Refusal → Result Plan Refusal
after_task schedule (Err why) = Err why
after_task schedule (Ok task) = let found = sched.lines_of task.job.places schedule in after_schedule task found (sched.first_fault found)

-- what a graph, a job and a schedule say, or why one of them is refused
unfoldable pub plan_of : List ℕ → List ℕ → List ℕ → Result Plan Refusal
plan_of graph job schedule = after_task schedule (task_of graph job)

-- what the rounds of a task print
abbrev pub result_of : Task → List ℕ
result_of task = chosen_text task.job.program task.edges task.vertices task.job.rounds

abbrev pub result_or_refusal : Result Task Refusal → Result (List ℕ) Refusal
result_or_refusal (Err why) = Err why
result_or_refusal (Ok task) = Ok (result_of task)

-- the result text of a graph and a job, or why one of them is refused
unfoldable pub reply_of : List ℕ → List ℕ → Result (List ℕ) Refusal
reply_of graph job = result_or_refusal (task_of graph job)
