-- What a command comes to where what was read is refused.
use Rattle.std.proofs.Common.{◌≡◌, ◌⊎◌, ℕ, List, Option, Some, None, Result, Ok, Err, refl, sym, subst, inl, inr}
use Rattle.std.specs.Prelude.{IfSome}
use Rattle.gr_outside.specs.Files.{FilesSeen, FilesTold, bytes_of}
use Rattle.gr_outside.specs.Sink.{SinkSeen}
use Rattle.gr_edges.specs.declared.fault.GraphFault.{GraphFault}
use Rattle.gr_edges.specs.declared.fault.GraphFault.TheVariants as graph_fault
use Rattle.gr_edges.specs.Reading as edges
use Rattle.gr_job.specs.declared.fault.JobFault.{JobFault}
use Rattle.gr_job.specs.declared.fault.JobFault.TheVariants as job_fault
use Rattle.gr_job.specs.Job.{JobValues, job_of}
use Rattle.gr_sched.specs.declared.fault.SchedFault.{SchedFault}
use Rattle.gr_sched.specs.declared.fault.SchedFault.TheVariants as sched_fault
use Rattle.gr_sched.specs.declared.line.LineFound.{LineFound}
use Rattle.gr_sched.specs.Reading as sched
use Rattle.imitate.specs.declared.refusal.Refusal.{Refusal}
use Rattle.imitate.specs.declared.refusal.Refusal.TheVariants as refusal
use Rattle.imitate.specs.Words.{FileNames, Asked}
use Rattle.imitate.specs.Refusals.{graph_refusal, job_refusal, schedule_refusal}
use Rattle.imitate.specs.Reading.{Task, after_graph, after_job, task_of, after_schedule, after_task, plan_of, result_or_refusal, reply_of}
use Rattle.imitate.specs.Contents.{KeepsFiles}
use Rattle.imitate.specs.Outcome.{of_two, reply_to, IsRefused, Fails}
use Rattle.imitate.proofs.Quiet.{some-both}

-- a refusal of what was read
abbrev pub IsOfReading : Refusal → Type 0
IsOfReading refusal.OutOfMemory = Unit {0}
IsOfReading (refusal.Graph fault) = Unit {0}
IsOfReading (refusal.Job fault) = Unit {0}
IsOfReading (refusal.Schedule fault) = Unit {0}
IsOfReading other = ⊥

graph-read : (fault : GraphFault) → IsOfReading (graph_refusal fault)
graph-read graph_fault.OutOfMemory = tt
graph-read other = tt

job-read : (fault : JobFault) → IsOfReading (job_refusal fault)
job-read job_fault.OutOfMemory = tt
job-read other = tt

schedule-read : (fault : SchedFault) → IsOfReading (schedule_refusal fault)
schedule-read sched_fault.OutOfMemory = tt
schedule-read other = tt

-- a refusal that comes of reading, where there is one
abbrev IfRefused : {A : Type 0} → Result A Refusal → Type 0
IfRefused (Ok a) = Unit {0}
IfRefused (Err why) = IsOfReading why

after_graph-read : (job : JobValues) (graph : List ℕ) (o : Option GraphFault) → IfRefused (after_graph job graph o)
after_graph-read job graph (Some fault) = graph-read fault
after_graph-read job graph None = tt

after_job-read : (graph : List ℕ) (r : Result JobValues JobFault) → IfRefused (after_job graph r)
after_job-read graph (Err fault) = job-read fault
after_job-read graph (Ok job) = after_graph-read job graph (edges.first_fault job.undirected (edges.lines_of graph))

task-read : (graph job : List ℕ) → IfRefused (task_of graph job)
unfolding task_of
task-read graph job = after_job-read graph (job_of job)

after_schedule-read : (task : Task) (found : List LineFound) (o : Option SchedFault) → IfRefused (after_schedule task found o)
after_schedule-read task found (Some fault) = schedule-read fault
after_schedule-read task found None = tt

after_task-read : (schedule : List ℕ) (r : Result Task Refusal) → IfRefused r → IfRefused (after_task schedule r)
after_task-read schedule (Err why) h = h
after_task-read schedule (Ok task) h = let found = sched.lines_of task.job.places schedule in after_schedule-read task found (sched.first_fault found)

plan-read : (graph job schedule : List ℕ) → IfRefused (plan_of graph job schedule)
unfolding plan_of
plan-read graph job schedule = after_task-read schedule (task_of graph job) (task-read graph job)

or_refusal-read : (r : Result Task Refusal) → IfRefused r → IfRefused (result_or_refusal r)
or_refusal-read (Err why) h = h
or_refusal-read (Ok task) h = tt

reply-read : (graph job : List ℕ) → IfRefused (reply_of graph job)
unfolding reply_of
reply-read graph job = or_refusal-read (task_of graph job) (task-read graph job)

is_read : {A : Type 0} (r : Result A Refusal) (why : Refusal) → r ≡ Err why → IfRefused r → IsOfReading why
is_read {A} r why e h = subst (λ (x : Result A Refusal). IfRefused x) e h

pub reply-of_reading : (graph job : List ℕ) (why : Refusal) → reply_of graph job ≡ Err why → IsOfReading why
reply-of_reading graph job why e = is_read (reply_of graph job) why e (reply-read graph job)

pub plan-of_reading : (graph job schedule : List ℕ) (why : Refusal) → plan_of graph job schedule ≡ Err why → IsOfReading why
plan-of_reading graph job schedule why e = is_read (plan_of graph job schedule) why e (plan-read graph job schedule)

-- the bytes that were loaded are those that the answers are to
pub reply-told : (o : Option FilesTold) (names : FileNames) (graph job : List ℕ)
    → IfSome o (λ t. bytes_of t.files names.graph ≡ Some graph) → IfSome o (λ t. bytes_of t.files names.job ≡ Some job)
    → IfSome o (λ t. reply_to t names ≡ Some (reply_of graph job))
reply-told o names graph job g j =
    some-both o (λ t. bytes_of t.files names.graph ≡ Some graph) (λ t. bytes_of t.files names.job ≡ Some job) (λ t. reply_to t names ≡ Some (reply_of graph job)) g j
    (λ t eg ej i. of_two reply_of (eg i) (ej i))

module _ (files files' : FilesSeen) (out : SinkSeen) (kept : KeepsFiles files files') where
  -- memory ran out
  at-memory : (asked : Asked) → Fails files files' out out asked refusal.OutOfMemory
  at-memory (Asked.Plain names) = record { cause = tt; output = inl refl; left = kept }
  at-memory (Asked.Run names) = record { cause = tt; output = inl refl; left = inl kept }
  at-memory (Asked.Load seed size) = record { cause = tt; output = inl refl; left = kept }

  -- what was read is refused; `load` reads nothing
  abbrev IsRead : Asked → Refusal → Type 0
  IsRead (Asked.Load seed size) why = ⊥
  IsRead asked why = IsOfReading why × IfSome files.told (λ t. IsRefused t asked why)

  read-fails : (asked : Asked) (why : Refusal) → IsRead asked why → Fails files files' out out asked why
  read-fails (Asked.Plain names) refusal.OutOfMemory h = at-memory (Asked.Plain names)
  read-fails (Asked.Plain names) (refusal.Graph fault) h = record { cause = h.1; output = refl; left = kept }
  read-fails (Asked.Plain names) (refusal.Job fault) h = record { cause = h.1; output = refl; left = kept }
  read-fails (Asked.Plain names) (refusal.Schedule fault) h = record { cause = h.1; output = refl; left = kept }
  read-fails (Asked.Plain names) other h = absurd h.0
  read-fails (Asked.Run names) refusal.OutOfMemory h = at-memory (Asked.Run names)
  read-fails (Asked.Run names) (refusal.Graph fault) h = record { cause = h.1; output = refl; left = kept }
  read-fails (Asked.Run names) (refusal.Job fault) h = record { cause = h.1; output = refl; left = kept }
  read-fails (Asked.Run names) (refusal.Schedule fault) h = record { cause = h.1; output = refl; left = kept }
  read-fails (Asked.Run names) other h = absurd h.0
  read-fails (Asked.Load seed size) why h = absurd h

  memory-fails : (asked : Asked) (why : Refusal) → why ≡ refusal.OutOfMemory → Fails files files' out out asked why
  memory-fails asked why e = subst (λ (w : Refusal). Fails files files' out out asked w) (sym e) (at-memory asked)

  pub refused-fails : (asked : Asked) (why : Refusal) → (why ≡ refusal.OutOfMemory) ⊎ IsRead asked why → Fails files files' out out asked why
  refused-fails asked why is = elim is [ inl e ↦ memory-fails asked why e | inr h ↦ read-fails asked why h ]
