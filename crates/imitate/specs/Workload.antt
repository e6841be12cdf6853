-- What `load SEED SIZE` plays, and the line that it prints.
use Rattle.std.specs.Prelude.{◌≡◌, ◌≤◌, ℕ, ◌==◌, false, if◌then◌else◌, List, ◌++◌, length, sum_by, codes}
use Rattle.gr_program.specs.declared.program.ValueOf.{ValueOf}
use Rattle.gr_program.specs.Rounds.{last_round}
use Rattle.gr_program.specs.Result.{values_after}
use Rattle.gr_job.specs.Job.{JobValues}
use Rattle.gr_job.specs.declared.job.ProgramChoice.TheVariants as choice
use Rattle.gr_sched.specs.Words.{word}
use Rattle.gr_gen.specs.Generated.{vertex_count, vertices_below, edges_of, schedule_of}
use Rattle.gr_sum.specs.Infinity.{infinity, capped}
use Rattle.gr_min.specs.declared.distance.Distance.{Distance}
use Rattle.gr_min.specs.Shortest.{shortest}
use Rattle.gr_cluster.specs.Runs.{steps_of}
use Rattle.imitate.specs.Reading.{Plan}
use Rattle.imitate.specs.declared.ended.Ended.TheVariants as ended
use Rattle.imitate.specs.Words.{max_size}
use Rattle.imitate.specs.Running.{begin, IsWholeAfter, run_end}

-- the shortest paths from vertex 0, on four places with one spare, where each vertex is to outlive one loss
abbrev pub workload_job : JobValues
workload_job = record { places = 4; spares = 1; losses = 1; theta = 100; rounds = 1000; undirected = false; program = choice.Shortest 0 }

-- the graph of a seed and a size, and the schedule of the seed
abbrev pub workload_plan : ℕ → ℕ → Plan
workload_plan seed size = record {
  task = record { job = workload_job; edges = edges_of seed size; vertices = vertices_below size };
  lines = schedule_of seed;
}

-- the last of the synchronous rounds of the graph that is not cut, and the distances after it
abbrev pub rounds_of : ℕ → ℕ → ℕ
rounds_of seed size = last_round (shortest 0) (edges_of seed size) (vertices_below size) workload_job.rounds

abbrev pub distances_of : ℕ → ℕ → List (ValueOf Distance)
distances_of seed size = values_after (shortest 0) (edges_of seed size) (vertices_below size) (rounds_of seed size)

-- the sum of the distances, of which the infinite ones count nothing; it stays at the greatest number
abbrev pub finite : ValueOf Distance → ℕ
finite x = if x.value.0 == infinity then 0 else x.value.0

abbrev pub sum_of : List (ValueOf Distance) → ℕ
sum_of xs = capped (sum_by finite xs)

-- the line of a run of so many rounds, events and this sum
abbrev pub summary_text : ℕ → ℕ → ℕ → ℕ → ℕ → List ℕ
summary_text seed size rounds events total =
    codes "load" ++ word seed ++ word size ++ codes " vertices" ++ word (vertex_count size) ++ codes " rounds" ++ word rounds ++ codes " events" ++ word events
    ++ codes " sum" ++ word total ++ codes "\n"

-- a text is the line of the run: its rounds and its sum are those of the graph that is not cut, and its events are the steps of
-- the whole run
pub record IsSummary (seed size : ℕ) (text : List ℕ) : Type 0 where
  pub events : ℕ
  pub whole : IsWholeAfter (workload_plan seed size) events
  pub count : length (steps_of (shortest 0) events (begin (workload_plan seed size))) ≡ events
  pub is : text ≡ summary_text seed size (rounds_of seed size) events (sum_of (distances_of seed size))

-- the whole run of a seed and a size is always done
abbrev pub WorkloadIsDone : Type 0
WorkloadIsDone = (seed size : ℕ) → size ≤ max_size → (steps : ℕ) → IsWholeAfter (workload_plan seed size) steps → run_end (workload_plan seed size) steps ≡ ended.Done
