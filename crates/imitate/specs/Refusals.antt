-- Why a command line is refused: the status and the text of each cause.
use Rattle.std.specs.Prelude.{ℕ, List, ◌++◌, codes, decimal}
use Rattle.gr_edges.specs.declared.fault.GraphFault.{GraphFault}
use Rattle.gr_edges.specs.declared.fault.GraphFault.TheVariants as graph
use Rattle.gr_job.specs.declared.fault.JobFault.{JobFault}
use Rattle.gr_job.specs.declared.fault.JobFault.TheVariants as job
use Rattle.gr_sched.specs.declared.fault.SchedFault.{SchedFault}
use Rattle.gr_sched.specs.declared.fault.SchedFault.TheVariants as schedule
use Rattle.imitate.specs.declared.refusal.Input.{Input}
use Rattle.imitate.specs.declared.refusal.Input.TheVariants as input
use Rattle.imitate.specs.declared.refusal.Refusal.{Refusal}
use Rattle.imitate.specs.declared.refusal.Refusal.TheVariants as refusal
use Rattle.imitate.specs.Words.{FileNames, Asked}

-- how a fault of the graph, of the job or of the schedule is refused
abbrev pub graph_refusal : GraphFault → Refusal
graph_refusal graph.OutOfMemory = refusal.OutOfMemory
graph_refusal fault = refusal.Graph fault

abbrev pub job_refusal : JobFault → Refusal
job_refusal job.OutOfMemory = refusal.OutOfMemory
job_refusal fault = refusal.Job fault

abbrev pub schedule_refusal : SchedFault → Refusal
schedule_refusal schedule.OutOfMemory = refusal.OutOfMemory
schedule_refusal fault = refusal.Schedule fault

abbrev pub status_of : Refusal → ℕ
status_of refusal.OutOfMemory = 1
status_of refusal.Usage = 2
status_of (refusal.Unreadable input) = 3
status_of (refusal.TooLong input) = 4
status_of (refusal.Graph fault) = 5
status_of (refusal.Job fault) = 6
status_of (refusal.Schedule fault) = 7
status_of refusal.Trace = 10
status_of refusal.Output = 11

abbrev pub memory_text : List ℕ
memory_text = codes "out of memory"

abbrev pub usage_text : List ℕ
usage_text = codes "usage: imitate run GRAPH JOB SCHEDULE TRACE, plain GRAPH JOB, load SEED SIZE"

-- the line of a graph that is at fault, and why
abbrev pub graph_line : ℕ → List ℕ → List ℕ
graph_line number why = codes "graph line " ++ decimal number ++ codes ": " ++ why

abbrev pub graph_text : GraphFault → List ℕ
graph_text (graph.NumberTooLarge line) = graph_line line (codes "number too large")
graph_text (graph.BadLine line) = graph_line line (codes "bad line")
graph_text (graph.TooManyEdges line) = graph_line line (codes "too many edges")
graph_text (graph.TooManyVertices line) = graph_line line (codes "too many vertices")
graph_text graph.OutOfMemory = memory_text

abbrev pub job_text : JobFault → List ℕ
job_text job.NotToml = codes "job: not TOML"
job_text (job.UnknownKey key) = codes "job: unknown key " ++ key
job_text (job.Missing key) = codes "job: missing " ++ key
job_text (job.WrongType key) = codes "job: wrong type " ++ key
job_text (job.OutOfRange key) = codes "job: out of range " ++ key
job_text job.UnknownProgram = codes "job: unknown program"
job_text job.OutOfMemory = memory_text

-- the line of a schedule that is at fault, and why
abbrev pub schedule_line : ℕ → List ℕ → List ℕ
schedule_line number why = codes "schedule line " ++ decimal number ++ codes ": " ++ why

abbrev pub schedule_text : SchedFault → List ℕ
schedule_text (schedule.BadLine line) = schedule_line line (codes "bad line")
schedule_text (schedule.PlaceOutOfRange line) = schedule_line line (codes "place out of range")
schedule_text (schedule.TooManyEvents line) = schedule_line line (codes "too many events")
schedule_text schedule.OutOfMemory = memory_text

-- whether what is asked for names this input; `plain` names no schedule, and `load` no input
abbrev pub NamesInput : Asked → Input → Type 0
NamesInput (Asked.Plain names) input.Schedule = ⊥
NamesInput (Asked.Load seed size) input = ⊥
NamesInput asked other = Unit {0}

-- the name of an input
abbrev pub name_of : FileNames → Input → List ℕ
name_of names input.Graph = names.graph
name_of names input.Job = names.job
name_of names input.Schedule = names.schedule

abbrev pub text_of : FileNames → Refusal → List ℕ
text_of names refusal.OutOfMemory = memory_text
text_of names refusal.Usage = usage_text
text_of names (refusal.Unreadable input) = codes "cannot read " ++ name_of names input
text_of names (refusal.TooLong input) = codes "too long: " ++ name_of names input
text_of names (refusal.Graph fault) = graph_text fault
text_of names (refusal.Job fault) = job_text fault
text_of names (refusal.Schedule fault) = schedule_text fault
text_of names refusal.Trace = codes "cannot write " ++ names.trace
text_of names refusal.Output = codes "cannot write output"

-- the line that is written of a refusal
abbrev pub line_of : FileNames → Refusal → List ℕ
line_of names why = text_of names why ++ codes "\n"
