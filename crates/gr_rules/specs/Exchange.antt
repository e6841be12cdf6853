-- How far a place is in the exchanges of an epoch: each stage is computed, and then its batches are sent.
use Rattle.std.specs.Prelude.{ℕ, Bool, true, false, not, List, [], Option, Some, None, if◌then◌else◌}
use Rattle.std.specs.List.{find}
use Rattle.gr_base.specs.Rising.{has}
use Rattle.gr_base.specs.Places.{with_place}
use Rattle.gr_batch.specs.declared.stage.Stage.{Stage}
use Rattle.gr_batch.specs.declared.stage.Stage.TheVariants as stage
use Rattle.gr_batch.specs.Stages.{stage_after, is_end}

-- the stage, whether it is computed, and the places that its batches were sent to
pub record Exchange : Type 0 where
  pub stage : Stage
  pub computed : Bool
  pub sent : List ℕ

-- the start of a stage
abbrev pub begun : Stage → Exchange
begun s = record { stage = s; computed = false; sent = [] }

-- the stage whose batches a stage of a round, or of a rebuild, needs
abbrev pub needed : Bool → Stage → Option Stage
needed rebuild stage.Gather = None
needed rebuild stage.Update = Some stage.Gather
needed rebuild stage.Signal = Some stage.Update
needed rebuild stage.Call = Some stage.Signal
needed rebuild stage.Ask = None
needed rebuild stage.Grant = Some stage.Ask
needed rebuild stage.End = Some (if rebuild then stage.Grant else stage.Call)

-- the least other party to which nothing was sent
abbrev pub unsent : List ℕ → List ℕ → Option ℕ
unsent others sent = find (λ q. not (has sent q)) others

-- a stage is passed with the last of its batches
abbrev pub passed : Option ℕ → Exchange → Exchange
passed None x = begun (stage_after x.stage)
passed (Some q) x = x

-- A stage is computed. Where there is no other party it is passed at once, but for the end.
abbrev pub computed : Option ℕ → Exchange → Exchange
computed next x = let d = record x { computed = true } in if is_end x.stage then d else passed next d

-- one batch is sent
abbrev pub sent_to : List ℕ → ℕ → Exchange → Exchange
sent_to others q x = let sent = with_place x.sent q in passed (unsent others sent) (record x { sent = sent })
