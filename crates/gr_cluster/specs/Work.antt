-- What a work of a place makes of the cluster.
use Rattle.std.specs.Prelude.{ℕ, ◌+◌, true, false, not, nat_lt, List, [], ◌∷◌, ◌++◌, Option, Some, None, if◌then◌else◌}
use Rattle.std.specs.List.{filter}
use Rattle.gr_base.specs.declared.records.NumberedEdge.{NumberedEdge}
use Rattle.gr_program.specs.declared.copy.VertexCopy.{VertexCopy}
use Rattle.gr_program.specs.Program.{Program}
use Rattle.gr_log.specs.Bytes.{size_of}
use Rattle.gr_log.specs.Log.{with_records, cut_log}
use Rattle.gr_batch.specs.declared.stage.Stage.{Stage}
use Rattle.gr_batch.specs.declared.stage.Stage.TheVariants as stage
use Rattle.gr_batch.specs.declared.outcome.Outcome.{Outcome}
use Rattle.gr_batch.specs.declared.outcome.Outcome.TheVariants as outcome
use Rattle.gr_view.specs.declared.coordinator.Mode.{Mode}
use Rattle.gr_view.specs.Modes.{is_rebuild}
use Rattle.gr_view.specs.Decisions.{reported}
use Rattle.gr_rules.specs.Exchange.{Exchange, unsent, computed, sent_to}
use Rattle.gr_rules.specs.Todo.{Todo}
use Rattle.gr_rules.specs.AtPlace.{due_count}
use Rattle.gr_cluster.specs.Tables.{Host, Cluster, log, with_host, with_log}
use Rattle.gr_cluster.specs.Todo.{others, todo}
use Rattle.gr_cluster.specs.Place.{staged_rows, staged_arcs, batch_to, new_records}

-- the stage that a place begins an epoch with
abbrev pub first_stage : Mode → Stage
first_stage m = if is_rebuild m then stage.Ask else stage.Gather

module _ {V A : Type 0} where
  -- the pending layer becomes the stable one
  abbrev pub installed_host : Host V A → Host V A
  installed_host h = record h { stable = h.pending; arcs = h.pending_arcs; installed = h.installed + 1 }

  -- a new epoch is adopted: the pending layer, the open work and older batches are dropped
  abbrev pub adopted_host : ℕ → Mode → Host V A → Host V A
  adopted_host e m h = record h {
    pending = h.stable;
    pending_arcs = h.arcs;
    inbox = filter (λ b. not (nat_lt b.epoch e)) h.inbox;
    epoch = e;
    stage = first_stage m;
    computed = false;
    sent = [];
    appended = false;
    reported = false;
  }

  -- the exchange of a host, and the host in another
  abbrev pub exchange_of : Host V A → Exchange
  exchange_of h = record { stage = h.stage; computed = h.computed; sent = h.sent }

  abbrev pub in_exchange : Exchange → Host V A → Host V A
  in_exchange x h = record h { stage = x.stage; computed = x.computed; sent = x.sent }

  -- a stage is computed, with what it stages
  abbrev pub computed_host : List ℕ → List (VertexCopy V) → List NumberedEdge → Host V A → Host V A
  computed_host others rows arcs h = in_exchange (computed (unsent others []) (exchange_of h)) (record h { pending = rows; pending_arcs = arcs })

  -- one batch is sent
  abbrev pub sent_host : List ℕ → ℕ → Host V A → Host V A
  sent_host others q h = in_exchange (sent_to others q (exchange_of h)) h

  module _ (P : Program V A) where
    unfoldable pub worked : Cluster V A → ℕ → Host V A → Todo → Cluster V A × Outcome V A
    worked c p h Todo.Install = (with_host p (Some (installed_host h)) c, outcome.Installed (h.installed + 1))
    worked c p h Todo.Adopt =
        (with_log p (cut_log (log c p)) (with_host p (Some (adopted_host c.coordinator.epoch c.coordinator.mode h)) c), outcome.Adopted c.coordinator.epoch)
    worked c p h Todo.Compute =
        let d = computed_host (others c.coordinator p) (staged_rows P c p h h.stage) (staged_arcs P c p h h.stage) h in
        (with_host p (Some d) c, outcome.Computed h.stage)
    worked c p h (Todo.Send q) = (
      record (with_host p (Some (sent_host (others c.coordinator p) q h)) c) {
        flight = c.flight ++ batch_to P c p h q ∷ [];
        serial = c.serial + 1;
      },
      outcome.Sent c.serial h.stage q,
    )
    worked c p h Todo.Append =
        let records = new_records P c p h in
        (with_log p (with_records records (log c p)) (with_host p (Some (record h { appended = true })) c), outcome.Appended (size_of records))
    worked c p h Todo.Report =
        let due = due_count p h.pending in
        (record (with_host p (Some (record h { reported = true })) c) { coordinator = reported c.coordinator p due }, outcome.Ready due)
    worked c p h (Todo.Wait s q) = (c, outcome.Waiting s q)
    worked c p h Todo.Rest = (c, outcome.Idle)

    -- nothing where the machine is down
    abbrev pub worked_at : Cluster V A → ℕ → Option (Host V A) → Cluster V A × Outcome V A
    worked_at c p None = (c, outcome.Idle)
    worked_at c p (Some h) = worked c p h (todo c.coordinator p h)
