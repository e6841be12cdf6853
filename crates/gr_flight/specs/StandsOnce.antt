-- Whose batches lie together in an inbox.
use Rattle.std.specs.Prelude.{ℕ, ◌≤◌, List}
use Rattle.std.specs.List.{count_by}
use Rattle.gr_batch.specs.declared.batch.Batch.{Batch}
use Rattle.gr_batch.specs.declared.stage.Stage.{Stage}
use Rattle.gr_batch.specs.Bodies.{is_of}

-- at most one batch of each sender, epoch and stage
abbrev pub StandsOnce : {V A : Type 0} → List (Batch V A) → Type 0
StandsOnce inbox = (sender epoch : ℕ) (s : Stage) → count_by (is_of sender epoch s) inbox ≤ 1
