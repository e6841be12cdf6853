-- What a place computes, sends and appends, from its own rows and inbox and from the logs.
use Rattle.std.specs.Prelude.{ℕ, List, [], ◌∷◌, ◌++◌, flat_map, if◌then◌else◌}
use Rattle.std.specs.List.{filter, list_any}
use Rattle.gr_base.specs.declared.records.NumberedEdge.{NumberedEdge}
use Rattle.gr_base.specs.Rising.{has}
use Rattle.gr_program.specs.declared.copy.VertexCopy.{VertexCopy}
use Rattle.gr_program.specs.Program.{Program}
use Rattle.gr_log.specs.declared.record.LogRecord.{LogRecord}
use Rattle.gr_log.specs.Directory.{with_items}
use Rattle.gr_batch.specs.declared.stage.Stage.{Stage}
use Rattle.gr_batch.specs.declared.stage.Stage.TheVariants as stage
use Rattle.gr_batch.specs.declared.body.Body.{Body}
use Rattle.gr_batch.specs.declared.body.Body.TheVariants as body
use Rattle.gr_batch.specs.declared.batch.Batch.{Batch}
use Rattle.gr_batch.specs.Bodies.{asks_of, grants_of}
use Rattle.gr_view.specs.Modes.{is_rebuild}
use Rattle.gr_rules.specs.Inbox.{bodies}
use Rattle.gr_rules.specs.AtPlace.{round_rows, round_body}
use Rattle.gr_rules.specs.Taken.{taken_edges, ask_body}
use Rattle.gr_rules.specs.Grants.{grant_body, records_after}
use Rattle.gr_cluster.specs.Tables.{Host, Cluster, view_of, wanted_in}
use Rattle.gr_cluster.specs.Todo.{others}

module _ {V A : Type 0} (P : Program V A) (c : Cluster V A) (p : ℕ) (h : Host V A) where
  -- who asked it for a vertex
  abbrev pub asked_for : ℕ → List ℕ
  asked_for v = filter (λ q. list_any (λ b. has (asks_of b) v) (bodies h.inbox h.epoch stage.Ask (q ∷ []))) (others c.coordinator p)

  -- the copies that it grants to q
  abbrev pub granted_to : ℕ → List (VertexCopy V)
  granted_to q = grant_body (view_of P c) (wanted_in P c) p asked_for h.stable q

  -- the copies granted to it, by others and by itself, rising, and the edges that it takes
  abbrev pub granted : List (VertexCopy V)
  granted = with_items (λ r. r.vertex) (flat_map grants_of (bodies h.inbox h.epoch stage.Grant (others c.coordinator p)) ++ granted_to p) []

  abbrev pub taken : List NumberedEdge
  taken = taken_edges (view_of P c) c.logs p

  -- the pending copies once a stage is computed: a rebuild stages all at the end
  abbrev pub rebuild_rows : Stage → List (VertexCopy V)
  rebuild_rows stage.End = with_items (λ r. r.vertex) granted h.pending
  rebuild_rows _ = h.pending

  abbrev pub staged_rows : Stage → List (VertexCopy V)
  staged_rows s =
      if is_rebuild c.coordinator.mode then rebuild_rows s
      else round_rows P p h.epoch (others c.coordinator p) h.inbox h.stable h.arcs s h.pending

  -- and the pending edges
  abbrev pub staged_arcs : Stage → List NumberedEdge
  staged_arcs stage.End = if is_rebuild c.coordinator.mode then with_items (λ a. a.number) taken h.pending_arcs else h.pending_arcs
  staged_arcs _ = h.pending_arcs

  -- the body of a stage to q
  abbrev pub body_to : ℕ → Stage → Body V A
  body_to q stage.Ask = body.Ask (ask_body (view_of P c) c.logs p h.stable q)
  body_to q stage.Grant = body.Grant (granted_to q)
  body_to q s = round_body P p h.epoch (others c.coordinator p) h.inbox h.stable h.arcs c.theta q s

  abbrev pub batch_to : ℕ → Batch V A
  batch_to q = record {
    serial = c.serial;
    epoch = c.coordinator.epoch;
    round = c.coordinator.round;
    sender = p;
    receiver = q;
    body = body_to q h.stage;
  }

  -- what it appends to its log in a rebuild
  abbrev pub new_records : List LogRecord
  new_records = records_after granted taken
