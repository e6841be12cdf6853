-- What becomes of a batch in flight, and of a place that crashes.
use Rattle.std.specs.Prelude.{ℕ, ◌||◌, nat_lt, [], ◌∷◌, ◌++◌, Option, Some, None, is_none, remove, if◌then◌else◌}
use Rattle.gr_log.specs.Log.{torn_log, tail_size}
use Rattle.gr_batch.specs.declared.batch.Batch.{Batch}
use Rattle.gr_batch.specs.declared.outcome.Fate.{Fate}
use Rattle.gr_batch.specs.declared.outcome.Fate.TheVariants as fate
use Rattle.gr_batch.specs.declared.outcome.Outcome.{Outcome}
use Rattle.gr_batch.specs.declared.outcome.Outcome.TheVariants as outcome
use Rattle.gr_cluster.specs.Tables.{Host, Cluster, host, log, with_host, with_log}

module _ {V A : Type 0} where
  -- a batch at its receiver: down where the machine is, stale where it is of an older epoch than the receiver's, else taken
  abbrev pub fate_at : Batch V A → Option (Host V A) → Fate
  fate_at b None = fate.Down
  fate_at b (Some h) = if nat_lt b.epoch h.epoch then fate.Stale else fate.Taken

  -- a taken batch goes into the inbox, and each other is gone
  abbrev pub received : Batch V A → Option (Host V A) → Option (Host V A)
  received b None = None
  received b (Some h) = Some (if nat_lt b.epoch h.epoch then h else record h { inbox = h.inbox ++ b ∷ [] })

  -- the i-th batch in flight is delivered
  unfoldable pub delivered : Cluster V A → ℕ → Option (Batch V A) → Cluster V A × Outcome V A
  delivered c i None = (c, outcome.Idle)
  delivered c i (Some b) =
      (record (with_host b.receiver (received b (host c b.receiver)) c) { flight = remove c.flight i }, outcome.Delivered b (fate_at b (host c b.receiver)))

  -- it may be dropped where it is of an older epoch, or its sender is down
  unfoldable pub dropped : Cluster V A → ℕ → Option (Batch V A) → Cluster V A × Outcome V A
  dropped c i None = (c, outcome.Idle)
  dropped c i (Some b) =
      if nat_lt b.epoch c.coordinator.epoch || is_none (host c b.sender)
      then (record c { flight = remove c.flight i }, outcome.Dropped b.serial) else (c, outcome.Idle)

  -- a place loses its memory, and all of its log but the committed part and the first n bytes after it
  unfoldable pub crashed : Cluster V A → ℕ → ℕ → Option (Host V A) → Cluster V A × Outcome V A
  crashed c p n None = (c, outcome.Idle)
  crashed c p n (Some h) = let l = torn_log n (log c p) in (with_log p l (with_host p None c), outcome.Crashed (tail_size l))
