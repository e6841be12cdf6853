-- What is read comes to, once the job, the graph and then the schedule is read.
use Rattle.std.proofs.Common.{◌≡◌, ◌≢◌, ◌⊎◌, ◌∙◌, ℕ, List, Option, Some, None, Result, Ok, Err, refl, sym, ap, inl, inr}
use Rattle.gr_base.specs.declared.records.Edge.{Edge}
use Rattle.gr_edges.specs.declared.fault.GraphFault.{GraphFault}
use Rattle.gr_edges.specs.declared.fault.GraphFault.TheVariants as graph_fault
use Rattle.gr_edges.specs.declared.graph.VertexInfo.{VertexInfo}
use Rattle.gr_edges.specs.Reading.{lines_of, edges_of, vertices_of, first_fault}
use Rattle.gr_edges.specs.Vertices.{ids}
use Rattle.gr_job.specs.declared.fault.JobFault.{JobFault}
use Rattle.gr_job.specs.declared.fault.JobFault.TheVariants as job_fault
use Rattle.gr_job.specs.Job.{JobValues, job_of}
use Rattle.gr_sched.specs.declared.fault.SchedFault.{SchedFault}
use Rattle.gr_sched.specs.declared.fault.SchedFault.TheVariants as sched_fault
use Rattle.gr_sched.specs.declared.event.Line.{Line}
use Rattle.gr_sched.specs.declared.line.LineFound.{LineFound}
use Rattle.gr_sched.specs.Reading as sched
use Rattle.imitate.specs.declared.refusal.Refusal.{Refusal}
use Rattle.imitate.specs.declared.refusal.Refusal.TheVariants as refusal
use Rattle.imitate.specs.Refusals.{graph_refusal, job_refusal, schedule_refusal}
use Rattle.imitate.specs.Outcome.{of_two, of_three}
use Rattle.imitate.specs.Reading.{Task, Plan, after_graph, after_job, task_of, after_schedule, after_task, plan_of, result_of, result_or_refusal, reply_of}

pub task-job_refused : (graph job : List ℕ) (fault : JobFault) → (fault ≢ job_fault.OutOfMemory → job_of job ≡ Err fault)
    → (job_refusal fault ≡ refusal.OutOfMemory) ⊎ (task_of graph job ≡ Err (job_refusal fault))
unfolding task_of
task-job_refused graph job job_fault.OutOfMemory is = inl refl
task-job_refused graph job other is = inr (ap (after_job graph) (is (λ e. cc)))

module _ (graph job : List ℕ) (values : JobValues) (accepted : job_of job ≡ Ok values) where
  pub task-graph_refused : (fault : GraphFault) → (fault ≡ graph_fault.OutOfMemory) ⊎ (first_fault values.undirected (lines_of graph) ≡ Some fault)
      → (graph_refusal fault ≡ refusal.OutOfMemory) ⊎ (task_of graph job ≡ Err (graph_refusal fault))
  unfolding task_of
  task-graph_refused fault why = elim why [
    | inl memory ↦ inl (ap graph_refusal memory)
    | inr is ↦ inr (ap (after_job graph) accepted ∙ ap (after_graph values graph) is)
  ]

  pub task-read : (edges : List Edge) (vertices : List VertexInfo) → first_fault values.undirected (lines_of graph) ≡ None
      → edges ≡ edges_of values.undirected (lines_of graph) → vertices ≡ vertices_of values.undirected (lines_of graph)
      → task_of graph job ≡ Ok (record { job = values; edges = edges; vertices = ids vertices })
  unfolding task_of
  task-read edges vertices none e v =
      ap (after_job graph) accepted
      ∙ ap (after_graph values graph) none
      ∙ (λ i. Ok (record { job = values; edges = sym e i; vertices = ids (sym v i) }))

module _ (graph job : List ℕ) where
  -- a refusal of the graph and the job is one of their result text
  pub reply-refused : (why : Refusal) → (why ≡ refusal.OutOfMemory) ⊎ (task_of graph job ≡ Err why) → (why ≡ refusal.OutOfMemory) ⊎ (reply_of graph job ≡ Err why)
  unfolding reply_of
  reply-refused why is = elim is [ inl e ↦ inl e | inr e ↦ inr (ap result_or_refusal e) ]

  pub reply-read : (task : Task) (text : List ℕ) → task_of graph job ≡ Ok task → text ≡ result_of task → reply_of graph job ≡ Ok text
  unfolding reply_of
  reply-read task text is t = ap result_or_refusal is ∙ ap Ok (sym t)

module _ (graph job schedule : List ℕ) where
  -- so is it of what a schedule stands with
  pub plan-refused : (why : Refusal) → (why ≡ refusal.OutOfMemory) ⊎ (task_of graph job ≡ Err why) → (why ≡ refusal.OutOfMemory) ⊎ (plan_of graph job schedule ≡ Err why)
  unfolding plan_of
  plan-refused why is = elim is [ inl e ↦ inl e | inr e ↦ inr (ap (after_task schedule) e) ]

module _ (graph job schedule : List ℕ) (task : Task) (is : task_of graph job ≡ Ok task) where
  pub plan-schedule_refused : (fault : SchedFault) → (fault ≡ sched_fault.OutOfMemory) ⊎ (sched.first_fault (sched.lines_of task.job.places schedule) ≡ Some fault)
      → (schedule_refusal fault ≡ refusal.OutOfMemory) ⊎ (plan_of graph job schedule ≡ Err (schedule_refusal fault))
  unfolding plan_of
  plan-schedule_refused fault why = elim why [
    | inl memory ↦ inl (ap schedule_refusal memory)
    | inr f ↦ inr (ap (after_task schedule) is ∙ ap (after_schedule task (sched.lines_of task.job.places schedule)) f)
  ]

  module _ (lines : List Line) (none : sched.first_fault (sched.lines_of task.job.places schedule) ≡ None) (said : lines ≡ sched.schedule_of (sched.lines_of task.job.places schedule)) where
    pub plan-read : plan_of graph job schedule ≡ Ok (record { task = task; lines = lines })
    unfolding plan_of
    plan-read =
        ap (after_task schedule) is
        ∙ ap (after_schedule task (sched.lines_of task.job.places schedule)) none ∙ ap (λ (ls : List Line). Ok (record { task = task; lines = ls })) (sym said)

scheduled-task : (task : Task) (found : List LineFound) (o : Option SchedFault) (plan : Plan) → after_schedule task found o ≡ Ok plan → task ≡ plan.task
scheduled-task task found (Some fault) plan e = absurd (cc)
scheduled-task task found None plan e = let same : record { task = task; lines = sched.schedule_of found } ≡ plan = cc in ap (λ (p : Plan). p.task) same

planned-reply : (schedule : List ℕ) (r : Result Task Refusal) (plan : Plan) → after_task schedule r ≡ Ok plan → result_or_refusal r ≡ Ok (result_of plan.task)
planned-reply schedule (Err why) plan e = absurd (cc)
planned-reply schedule (Ok task) plan e =
    let found = sched.lines_of task.job.places schedule in
    ap (λ (k : Task). Ok (result_of k)) (scheduled-task task found (sched.first_fault found) plan e)

-- where a schedule is accepted, so are the graph and the job
plan-reply : (graph job schedule : List ℕ) (plan : Plan) → plan_of graph job schedule ≡ Ok plan → reply_of graph job ≡ Ok (result_of plan.task)
unfolding plan_of reply_of
plan-reply graph job schedule plan e = planned-reply schedule (task_of graph job) plan e

-- so are they of files that are there
pub plan_to-reply : (graph job schedule : Option (List ℕ)) (plan : Plan) → of_three plan_of graph job schedule ≡ Some (Ok plan) → of_two reply_of graph job ≡ Some (Ok (result_of plan.task))
plan_to-reply (Some graph) (Some job) (Some schedule) plan e = let e' : plan_of graph job schedule ≡ Ok plan = cc in ap Some (plan-reply graph job schedule plan e')
plan_to-reply None job schedule plan e = absurd (cc)
plan_to-reply (Some graph) None schedule plan e = absurd (cc)
plan_to-reply (Some graph) (Some job) None plan e = absurd (cc)
