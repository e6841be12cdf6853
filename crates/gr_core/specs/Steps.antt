-- What the step of a cluster asks of a batch, and what a place does in a round, by its host.
use Rattle.std.specs.Prelude.{ℕ, Bool, true, false, ◌||◌, nat_lt, Option, Some, None, is_none}
use Rattle.gr_base.specs.Places.{without_place}
use Rattle.gr_program.specs.Program.{Program}
use Rattle.gr_rows.specs.Layers.{CopyLayers}
use Rattle.gr_batch.specs.declared.batch.Batch.{Batch}
use Rattle.gr_batch.specs.declared.outcome.Outcome.{Outcome}
use Rattle.gr_batch.specs.declared.outcome.Outcome.TheVariants as outcome
use Rattle.gr_sched.specs.declared.event.Event.{Event}
use Rattle.gr_sched.specs.declared.event.Event.TheVariants as event
use Rattle.gr_rules.specs.Todo.{Todo}
use Rattle.gr_round.specs.declared.act.Act.{Act}
use Rattle.gr_round.specs.declared.view.RoundView.{RoundView}
use Rattle.gr_round.specs.Line.{RoundLine}
use Rattle.gr_round.specs.Todo.{next_at}
use Rattle.gr_round.specs.Acts.{line_after, pending_after, answer_to}
use Rattle.gr_cluster.specs.Tables.{Host, Cluster, host}
use Rattle.gr_cluster.specs.Work.{exchange_of, in_exchange}

-- a batch in flight may be dropped where it is of an older epoch, or its sender is down
abbrev pub may_drop : {V A : Type 0} → Cluster V A → Option (Batch V A) → Bool
may_drop c None = false
may_drop c (Some b) = nat_lt b.epoch c.coordinator.epoch || is_none (host c b.sender)

module _ {V A : Type 0} where
  -- the line of a host, and its copies
  abbrev pub line_of : Host V A → RoundLine
  line_of h = record { exchange = exchange_of h; reported = h.reported }

  abbrev pub copies_of : Host V A → CopyLayers V
  copies_of h = record { stable = h.stable; pending = h.pending }

  -- the host in another line of a round
  abbrev pub in_line : RoundLine → Host V A → Host V A
  in_line l h = record (in_exchange l.exchange h) { reported = l.reported }

  -- what the place p does next in a round
  abbrev pub next_of : ℕ → RoundView → Host V A → Todo
  next_of p w h = next_at p w h.inbox (line_of h)

  module _ (P : Program V A) (p : ℕ) (w : RoundView) (h : Host V A) where
    -- what it answers, and the host after it
    abbrev pub answer_of : Todo → Act V A
    answer_of x = answer_to P p w h.inbox h.arcs (line_of h) (copies_of h) x

    abbrev pub acted_host : Todo → Host V A
    acted_host x = in_line (line_after (without_place w.parties p) (line_of h) x) (record h { pending = pending_after P p w h.inbox h.arcs (line_of h) (copies_of h) x })

-- a delivery and a recovery take memory, and of the works those that compute, send or append; all else takes none
abbrev pub takes_memory : {V A : Type 0} → Event → Outcome V A → Bool
takes_memory (event.Deliver i) o = true
takes_memory (event.Recover ps) o = true
takes_memory (event.Work p) (outcome.Computed s) = true
takes_memory (event.Work p) (outcome.Sent n s q) = true
takes_memory (event.Work p) (outcome.Appended n) = true
takes_memory _ _ = false
