-- What a call of `play` makes of a cluster, and how it ends.
use Rattle.std.specs.Prelude.{ℕ, ◌≡◌, Bool, true, false, List, length, count_by, Option, Some, None}
use Rattle.gr_program.specs.Program.{Program}
use Rattle.gr_sched.specs.declared.event.Line.{Line}
use Rattle.gr_sched.specs.declared.event.Line.TheVariants as line
use Rattle.gr_cluster.specs.Tables.{Cluster}
use Rattle.gr_cluster.specs.Runs.{Position, position_after, steps_of}
use Rattle.gr_cluster.specs.Ending as cluster
use Rattle.gr_play.specs.declared.ending.Ending.{Ending}
use Rattle.gr_play.specs.declared.ending.Ending.TheVariants as ending

-- where a schedule begins
abbrev pub start : {V A : Type 0} → Cluster V A → List Line → Position V A
start c ls = record { cluster = c; lines = ls }

-- a line that names its event, and so is no `settle` or `finish`
abbrev pub names_event : Line → Bool
names_event (line.Step e) = true
names_event _ = false

-- how many such lines a schedule has
abbrev pub event_lines : List Line → ℕ
event_lines ls = count_by names_event ls

-- so many steps were played from a position, and led to this cluster
pub record Plays {V A : Type 0} (P : Program V A) (s : Position V A) (steps : ℕ) (end : Cluster V A) : Type 0 where
  pub count : length (steps_of P steps s) ≡ steps
  pub cluster : (position_after P steps s).cluster ≡ end

-- the ending of a run that is told, unless the trace or memory failed
abbrev pub told_by : Ending → Option cluster.Ending
told_by ending.Done = Some cluster.Ending.Done
told_by (ending.Lost vs) = Some (cluster.Ending.Lost vs)
told_by (ending.Unfinished r) = Some (cluster.Ending.Early r)
told_by ending.TraceFault = None
told_by ending.NoMemory = None
