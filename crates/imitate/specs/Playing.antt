-- What playing a run comes to.
use Rattle.std.specs.Prelude.{◌≡◌, ◌⊎◌, ℕ, List, Option, IsSome, Result, IfOk, IfErr}
use Rattle.gr_outside.specs.Causes.{Rose}
use Rattle.gr_outside.specs.Files.{FilesSeen}
use Rattle.gr_cluster.specs.Tables.{Cluster}
use Rattle.gr_cluster.specs.Runs.{Position, IsWhole}
use Rattle.gr_cluster.specs.Ending as cluster
use Rattle.gr_play.specs.Tracing.{Traces, TracesPart}
use Rattle.imitate.specs.declared.ended.Ended.{Ended}
use Rattle.imitate.specs.declared.refusal.Refusal.{Refusal}
use Rattle.imitate.specs.declared.told.Told.{Told}
use Rattle.imitate.specs.declared.refusal.Refusal.TheVariants as refusal
use Rattle.imitate.specs.Chosen.{Chosen}
use Rattle.imitate.specs.Contents.{KeepsFiles}
use Rattle.imitate.specs.Running.{ended_by, stands_after, trace_after, ending_after, text_after}

module _ (files files' : FilesSeen) (trace : List ℕ) (c : Chosen) (s : Position c.Value c.Sum) where
  -- after so many steps there is no further one; it ended so, this is its text, and its trace is in the file
  pub record IsPlayed (end : Ended) (text : List ℕ) : Type 0 where
    pub steps : ℕ
    pub whole : IsWhole (stands_after c s steps)
    pub ended : ended_by (ending_after c s steps) ≡ end
    pub told : text ≡ text_after c s steps
    pub traced : Traces files files' trace (trace_after c s steps)

  -- a first part of the trace of some first steps is in the file
  abbrev pub IsPartTraced : Type 0
  IsPartTraced = (steps : ℕ) × TracesPart files files' trace (trace_after c s steps)

  -- it was not played to its end, or its text was not made: the trace failed in this call, or memory ran out
  abbrev pub IsUnplayed : Refusal → Type 0
  IsUnplayed refusal.OutOfMemory = KeepsFiles files files' ⊎ IsPartTraced
  IsUnplayed refusal.Trace = Rose files.write_faults files'.write_faults × IsPartTraced
  IsUnplayed other = ⊥

  -- one run: played to its end and told, or not
  pub record PlaysRun (result : Result Told Refusal) : Type 0 where
    pub played : IfOk result (λ run. IsPlayed run.ended run.text.items)
    pub unplayed : IfErr result IsUnplayed

-- an ending that is told: how the cluster ended, and its text
pub record IsTold {V A : Type 0} (value_text : V → List ℕ) (c : Cluster V A) (told : Option cluster.Ending) (end : Ended) (text : List ℕ) : Type 0 where
  pub is_told : IsSome told
  pub ended : ended_by (cluster.ending_of c) ≡ end
  pub text_is : text ≡ cluster.ending_text value_text c (cluster.ending_of c)
