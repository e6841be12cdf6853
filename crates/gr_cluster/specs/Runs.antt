-- A run: a cluster, the lines of a schedule that are left, and the steps that they give.
use Rattle.std.specs.Prelude.{ℕ, zero, suc, ◌≡◌, Bool, true, false, List, [], ◌∷◌, Option, Some, None, length}
use Rattle.std.specs.Option.{option_or}
use Rattle.gr_program.specs.Program.{Program}
use Rattle.gr_batch.specs.declared.outcome.Outcome.{Outcome}
use Rattle.gr_batch.specs.declared.outcome.Outcome.TheVariants as outcome
use Rattle.gr_sched.specs.declared.event.Event.{Event}
use Rattle.gr_sched.specs.declared.event.Line.{Line}
use Rattle.gr_sched.specs.declared.event.Line.TheVariants as line
use Rattle.gr_cluster.specs.Tables.{Cluster}
use Rattle.gr_cluster.specs.Step.{step}
use Rattle.gr_cluster.specs.Canonical.{next_canonical}

-- where a run stands: the cluster, and the lines that are left
pub record Position (V A : Type 0) : Type 0 where
  pub cluster : Cluster V A
  pub lines : List Line

-- one step: its event and its outcome
pub record Played (V A : Type 0) : Type 0 where
  pub event : Event
  pub outcome : Outcome V A

abbrev pub is_commit : {V A : Type 0} → Outcome V A → Bool
is_commit (outcome.Committed c r d) = true
is_commit _ = false

-- the event that comes next: that of the first line, but `settle` and `finish` give the canonical event while there is one
abbrev pub event_of : Option Event → List Line → Option Event
event_of canonical [] = None
event_of canonical (line.Step e ∷ ls) = Some e
event_of canonical (line.Settle ∷ ls) = option_or canonical (event_of canonical ls)
event_of canonical (line.Finish ∷ ls) = option_or canonical (event_of canonical ls)

-- the lines that are left after it; a commit ends `settle`
abbrev pub lines_after : Option Event → Bool → List Line → List Line
lines_after canonical commits [] = []
lines_after canonical commits (line.Step e ∷ ls) = ls
lines_after None commits (line.Settle ∷ ls) = lines_after None commits ls
lines_after (Some e) true (line.Settle ∷ ls) = ls
lines_after (Some e) false (line.Settle ∷ ls) = line.Settle ∷ ls
lines_after None commits (line.Finish ∷ ls) = lines_after None commits ls
lines_after (Some e) commits (line.Finish ∷ ls) = line.Finish ∷ ls

unfoldable pub next_event : {V A : Type 0} → Position V A → Option Event
next_event s = event_of (next_canonical s.cluster) s.lines

-- the run has no further step
abbrev pub IsWhole : {V A : Type 0} → Position V A → Type 0
IsWhole s = next_event s ≡ None

module _ {V A : Type 0} (P : Program V A) where
  abbrev pub position_by : Position V A → Option Event → Position V A
  position_by s None = s
  position_by s (Some e) =
      let r = step P s.cluster e in record { cluster = r.0; lines = lines_after (next_canonical s.cluster) (is_commit r.1) s.lines }

  -- the position after one step, and after n steps; where the run has no further step it stays
  unfoldable pub next_position : Position V A → Position V A
  next_position s = position_by s (next_event s)

  unfoldable pub position_after : ℕ → Position V A → Position V A
  position_after zero s = s
  position_after (suc n) s = position_after n (next_position s)

  abbrev pub played_by : Position V A → Option Event → List (Played V A) → List (Played V A)
  played_by s None rest = []
  played_by s (Some e) rest = record { event = e; outcome = (step P s.cluster e).1 } ∷ rest

  -- the first n steps, or all where there are fewer
  unfoldable pub steps_of : ℕ → Position V A → List (Played V A)
  steps_of zero s = []
  steps_of (suc n) s = played_by s (next_event s) (steps_of n (next_position s))

  -- a whole run from a position: its steps, and the cluster at its end
  pub record IsRun (start : Position V A) (played : List (Played V A)) (end : Cluster V A) : Type 0 where
    pub steps : played ≡ steps_of (length played) start
    pub last : end ≡ (position_after (length played) start).cluster
    pub whole : IsWhole (position_after (length played) start)
