-- What an inbox knows of its newest epoch: whose batches are there, for each stage.
use Rattle.std.specs.Prelude.{ℕ, ◌≡◌, ◌<◌, ◌≤◌, List, [], slice_index_or}
use Rattle.std.specs.List.{All, list_any}
use Rattle.gr_base.specs.Rising.{has}
use Rattle.gr_batch.specs.declared.batch.Batch.{Batch}
use Rattle.gr_batch.specs.declared.stage.Stage.{Stage}
use Rattle.gr_batch.specs.Stages.{code_of}
use Rattle.gr_batch.specs.Bodies.{is_of}
use Rattle.gr_flight.specs.declared.newest.NewestEpoch.{NewestEpoch}

-- no batch is of a later epoch, and the set of each stage holds just the places whose batch of this epoch is there
pub record KnowsSenders {V A : Type 0} (newest : NewestEpoch) (inbox : List (Batch V A)) : Type 0 where
  pub none_later : All (λ b. b.epoch ≤ newest.epoch) inbox
  pub there : (s : Stage) (p : ℕ) → p < 64 → has (slice_index_or newest.senders (code_of s) []) p ≡ list_any (is_of p newest.epoch s) inbox
