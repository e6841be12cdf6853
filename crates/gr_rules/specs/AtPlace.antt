-- What a place knows, stages and sends in a round, by its inbox.
use Rattle.std.specs.Prelude.{ℕ, ◌&&◌, ◌==◌, List, [], ◌++◌, flat_map, count_by}
use Rattle.gr_base.specs.declared.records.NumberedEdge.{NumberedEdge}
use Rattle.gr_program.specs.declared.copy.VertexCopy.{VertexCopy}
use Rattle.gr_program.specs.Program.{Program}
use Rattle.gr_batch.specs.declared.stage.Stage.{Stage}
use Rattle.gr_batch.specs.declared.stage.Stage.TheVariants as stage
use Rattle.gr_batch.specs.declared.body.NewValue.{NewValue}
use Rattle.gr_batch.specs.declared.body.Body.{Body}
use Rattle.gr_batch.specs.declared.body.Body.TheVariants as body
use Rattle.gr_batch.specs.declared.batch.Batch.{Batch}
use Rattle.gr_batch.specs.Bodies.{values_of, signals_of, calls_of}
use Rattle.gr_rules.specs.Rows.{with_values, with_due}
use Rattle.gr_rules.specs.Inbox.{bodies}
use Rattle.gr_rules.specs.Round.{gather_body, new_values, update_body, signal_body, call_body}

-- place p in epoch e with these other parties, its inbox, its stable rows and its edges
module _ {V A : Type 0} (P : Program V A) (p e : ℕ) (others : List ℕ) (inbox : List (Batch V A)) (rows : List (VertexCopy V)) (arcs : List NumberedEdge) where
  -- the bodies that the other parties sent in a stage of this epoch
  abbrev pub brought : Stage → List (Body V A)
  brought s = bodies inbox e s others

  -- the new values of the vertices that the place masters
  abbrev pub own_values : List (NewValue V)
  own_values = new_values P p rows arcs (brought stage.Gather)

  -- those that it was sent, and all that it knows
  abbrev pub sent_values : List (NewValue V)
  sent_values = flat_map values_of (brought stage.Update)

  abbrev pub known_values : List (NewValue V)
  known_values = own_values ++ sent_values

  -- its vertices that are due next: those that its own edges signal, and those of the Signal batches
  abbrev pub own_next : List ℕ
  own_next = signal_body known_values rows arcs p ++ flat_map signals_of (brought stage.Signal)

  -- all that are due next at the place: its own, and those of the Call batches
  abbrev pub all_next : List ℕ
  all_next = own_next ++ flat_map calls_of (brought stage.Call)

  -- the pending copies once a stage of a round is computed
  abbrev pub round_rows : Stage → List (VertexCopy V) → List (VertexCopy V)
  round_rows stage.Update pending = with_values own_values pending
  round_rows stage.Signal pending = with_values sent_values pending
  round_rows stage.End pending = with_due all_next pending
  round_rows _ pending = pending

  -- the body of a stage of a round to q, under a threshold for high vertices; none is sent at the end
  abbrev pub round_body : ℕ → ℕ → Stage → Body V A
  round_body theta q stage.Gather = body.Gather (gather_body P theta q rows arcs)
  round_body theta q stage.Update = body.Update (update_body P p q rows arcs (brought stage.Gather))
  round_body theta q stage.Signal = body.Signal (signal_body known_values rows arcs q)
  round_body theta q stage.Call = body.Call (call_body own_next rows p q)
  round_body theta q _ = body.Call []

-- how many vertices that p masters are due
abbrev pub due_count : {V : Type 0} → ℕ → List (VertexCopy V) → ℕ
due_count {V} p rows = count_by (λ (c : VertexCopy V). (c.master == p) && c.due) rows
