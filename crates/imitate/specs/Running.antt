-- A run of a program on a cluster: where it stands after some steps, its trace, how it ends, and what it prints.
use Rattle.std.specs.Prelude.{ℕ, List}
use Rattle.gr_job.specs.Job.{JobValues}
use Rattle.gr_cluster.specs.Tables.{Cluster}
use Rattle.gr_cluster.specs.Load.{Setting, load}
use Rattle.gr_cluster.specs.Runs.{Position, position_after, steps_of, IsWhole}
use Rattle.gr_cluster.specs.Ending as cluster
use Rattle.gr_cluster.specs.TraceText.{trace_text}
use Rattle.imitate.specs.declared.ended.Ended.{Ended}
use Rattle.imitate.specs.declared.ended.Ended.TheVariants as ended
use Rattle.imitate.specs.Chosen.{Chosen, chosen_of}
use Rattle.imitate.specs.Reading.{Plan}

-- how a run ended, and the status of it
abbrev pub ended_by : cluster.Ending → Ended
ended_by cluster.Ending.Done = ended.Done
ended_by (cluster.Ending.Lost vs) = ended.Lost
ended_by (cluster.Ending.Early r) = ended.Early

abbrev pub end_status : Ended → ℕ
end_status ended.Done = 0
end_status ended.Lost = 8
end_status ended.Early = 9

-- a program, and where its run begins
module _ (c : Chosen) (s : Position c.Value c.Sum) where
  abbrev pub stands_after : ℕ → Position c.Value c.Sum
  stands_after steps = position_after c.program steps s

  abbrev pub trace_after : ℕ → List ℕ
  trace_after steps = trace_text c.numbers (steps_of c.program steps s)

  abbrev pub ending_after : ℕ → cluster.Ending
  ending_after steps = cluster.ending_of (stands_after steps).cluster

  abbrev pub text_after : ℕ → List ℕ
  text_after steps = cluster.ending_text c.text (stands_after steps).cluster (ending_after steps)

-- what of a job the cluster takes
abbrev pub setting_in : JobValues → Setting
setting_in job = record { places = job.places; spares = job.spares; losses = job.losses; theta = job.theta; limit = job.rounds }

-- The run of a plan: the job's program, from the load of the graph, by the lines of the schedule.
module _ (plan : Plan) where
  abbrev pub program_in : Chosen
  program_in = chosen_of plan.task.job.program

  abbrev pub begin : Position program_in.Value program_in.Sum
  begin = record { cluster = load program_in.program (setting_in plan.task.job) plan.task.edges plan.task.vertices; lines = plan.lines }

  -- it has no further step after so many
  abbrev pub IsWholeAfter : ℕ → Type 0
  IsWholeAfter steps = IsWhole (stands_after program_in begin steps)

  -- the cluster that its first steps lead to
  abbrev pub cluster_after : ℕ → Cluster program_in.Value program_in.Sum
  cluster_after steps = (stands_after program_in begin steps).cluster

  -- what its first steps trace; how it ends after them, and what it then prints
  abbrev pub run_trace : ℕ → List ℕ
  run_trace steps = trace_after program_in begin steps

  abbrev pub run_end : ℕ → Ended
  run_end steps = ended_by (ending_after program_in begin steps)

  abbrev pub run_text : ℕ → List ℕ
  run_text steps = text_after program_in begin steps
