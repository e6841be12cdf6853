-- What the readers accept is a plan that the promise is about, and the whole run of such a plan ends as it must.
use Rattle.std.proofs.Common.{◌≡◌, ℕ, List, Option, Some, None, Result, Ok, Err, refl, subst}
use Rattle.std.specs.Prelude.{IfOk}
use Rattle.gr_program.specs.ProgramLaws.{ProgramLaws}
use Rattle.gr_edges.specs.declared.fault.GraphFault.{GraphFault}
use Rattle.gr_edges.specs.Reading as edges
use Rattle.gr_job.specs.declared.fault.JobFault.{JobFault}
use Rattle.gr_job.specs.declared.job.ProgramChoice.{ProgramChoice}
use Rattle.gr_job.specs.declared.job.ProgramChoice.TheVariants as choice
use Rattle.gr_job.specs.Job.{JobValues, job_of}
use Rattle.gr_sched.specs.declared.fault.SchedFault.{SchedFault}
use Rattle.gr_sched.specs.Reading as sched
use Rattle.gr_sum.specs.Laws.RankLaws.{rank_laws}
use Rattle.gr_sum.specs.Laws.InDegreeLaws.{in_degree_laws}
use Rattle.gr_sum.specs.Laws.KCoreLaws.{k_core_laws}
use Rattle.gr_sum.specs.Laws.ReachLaws.{reach_laws}
use Rattle.gr_min.specs.Laws.ShortestLaws.{shortest_laws}
use Rattle.gr_min.specs.Laws.HopsLaws.{hops_laws}
use Rattle.gr_min.specs.Laws.LabelsLaws.{labels_laws}
use Rattle.gr_agree.specs.Accepted.{IsGraph, IsSetting}
use Rattle.gr_cluster.specs.Runs.{steps_of}
use Rattle.gr_law_runs.proofs.Ends.Ends.{ends-as-it-must}
use Rattle.imitate.specs.declared.refusal.Refusal.{Refusal}
use Rattle.imitate.specs.Chosen.{chosen_of}
use Rattle.imitate.specs.Reading.{Task, Plan, after_graph, after_job, task_of, after_schedule, after_task, plan_of}
use Rattle.imitate.specs.Running.{setting_in, program_in, begin, cluster_after, IsWholeAfter}
use Rattle.imitate.specs.Outcome.{of_three}
use Rattle.imitate.specs.Headline.{IsRunnable, AcceptedIsRunnable, EndsRightly, AcceptedRunsEndAsTheyMust}
use Rattle.imitate.proofs.AcceptedGraph.{graph-within}
use Rattle.imitate.proofs.AcceptedJob.{job-in_ranges}
use Rattle.imitate.proofs.Lines.{schedule-names}
use Rattle.imitate.proofs.Runs.{run-of}

-- the program of every job is lawful
chosen-laws : (which : ProgramChoice) → ProgramLaws (chosen_of which).program
chosen-laws (choice.Shortest source) = shortest_laws source
chosen-laws (choice.Hops source) = hops_laws source
chosen-laws choice.Labels = labels_laws
chosen-laws choice.Rank = rank_laws
chosen-laws choice.InDegree = in_degree_laws
chosen-laws (choice.Core k) = k_core_laws k
chosen-laws (choice.Reach seeds) = reach_laws seeds

-- a job and a graph within their limits
record IsWithin (task : Task) : Type 0 where
  pub setting : IsSetting (setting_in task.job)
  pub graph : IsGraph task.edges task.vertices

graph-read : (job : JobValues) → IsSetting (setting_in job) → (graph : List ℕ) (o : Option GraphFault) → edges.first_fault job.undirected (edges.lines_of graph) ≡ o → IfOk (after_graph job graph o) IsWithin
graph-read job S graph (Some fault) is = tt
graph-read job S graph None is = record { setting = S; graph = graph-within job.undirected graph is }

job-read : (graph job : List ℕ) (r : Result JobValues JobFault) → job_of job ≡ r → IfOk (after_job graph r) IsWithin
job-read graph job (Err fault) is = tt
job-read graph job (Ok values) is = graph-read values (job-in_ranges job values is) graph (edges.first_fault values.undirected (edges.lines_of graph)) refl

task-read : (graph job : List ℕ) → IfOk (task_of graph job) IsWithin
unfolding task_of
task-read graph job = job-read graph job (job_of job) refl

schedule-read : (task : Task) → IsWithin task → (schedule : List ℕ) (o : Option SchedFault) → IfOk (after_schedule task (sched.lines_of task.job.places schedule) o) IsRunnable
schedule-read task W schedule (Some fault) = tt
schedule-read task W schedule None = record {
  laws = chosen-laws task.job.program;
  setting = W.setting;
  graph = W.graph;
  lines = schedule-names task.job.places W.setting.few_places schedule;
}

plan-read : (schedule : List ℕ) (r : Result Task Refusal) → IfOk r IsWithin → IfOk (after_task schedule r) IsRunnable
plan-read schedule (Err why) h = tt
plan-read schedule (Ok task) W = schedule-read task W schedule (sched.first_fault (sched.lines_of task.job.places schedule))

pub accepted-runnable : AcceptedIsRunnable
unfolding plan_of
accepted-runnable graph job schedule plan e =
    subst (λ (r : Result Plan Refusal). IfOk r IsRunnable) e (plan-read schedule (task_of graph job) (task-read graph job))

pub runnable-ends : (plan : Plan) → IsRunnable plan → (steps : ℕ) → IsWholeAfter plan steps → EndsRightly plan steps
runnable-ends plan R steps whole =
    let c = program_in plan in
    ends-as-it-must c.program c.text (setting_in plan.task.job) plan.task.edges plan.task.vertices plan.lines (steps_of c.program steps (begin plan)) (cluster_after plan steps)
    (record { laws = R.laws; setting = R.setting; graph = R.graph; lines = R.lines; run = run-of c.program steps (begin plan) whole })

pub accepted-ends : AcceptedRunsEndAsTheyMust
accepted-ends graph job schedule plan e = runnable-ends plan (accepted-runnable graph job schedule plan e)

-- so is what files say that are there
pub files-runnable : (graph job schedule : Option (List ℕ)) (plan : Plan) → of_three plan_of graph job schedule ≡ Some (Ok plan) → IsRunnable plan
files-runnable (Some graph) (Some job) (Some schedule) plan e = let e' : plan_of graph job schedule ≡ Ok plan = cc in accepted-runnable graph job schedule plan e'
files-runnable None job schedule plan e = absurd (cc)
files-runnable (Some graph) None schedule plan e = absurd (cc)
files-runnable (Some graph) (Some job) None plan e = absurd (cc)
