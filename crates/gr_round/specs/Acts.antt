-- What a place does in a round, and what it answers.
use Rattle.std.specs.Prelude.{ℕ, true, List, []}
use Rattle.gr_base.specs.declared.records.NumberedEdge.{NumberedEdge}
use Rattle.gr_base.specs.Places.{without_place}
use Rattle.gr_program.specs.declared.copy.VertexCopy.{VertexCopy}
use Rattle.gr_program.specs.Program.{Program}
use Rattle.gr_rows.specs.Layers.{CopyLayers}
use Rattle.gr_batch.specs.declared.batch.Batch.{Batch}
use Rattle.gr_rules.specs.Exchange.{unsent, computed}
use Rattle.gr_rules.specs.Todo.{Todo}
use Rattle.gr_rules.specs.AtPlace.{round_rows, round_body, due_count}
use Rattle.gr_round.specs.declared.act.Act.{Act}
use Rattle.gr_round.specs.declared.act.Act.TheVariants as act
use Rattle.gr_round.specs.declared.view.RoundView.{RoundView}
use Rattle.gr_round.specs.Line.{RoundLine}
use Rattle.gr_round.specs.Todo.{next_at}

-- the line once a stage is computed, or the place has reported
abbrev pub line_after : List ℕ → RoundLine → Todo → RoundLine
line_after others l Todo.Compute = record l { exchange = computed (unsent others []) l.exchange }
line_after others l Todo.Report = record l { reported = true }
line_after others l _ = l

-- the line once the place p has done what comes next
abbrev pub next_line : {V A : Type 0} → ℕ → RoundView → List (Batch V A) → RoundLine → RoundLine
next_line p w inbox l = line_after (without_place w.parties p) l (next_at p w inbox l)

module _ {V A : Type 0} (P : Program V A) (p : ℕ) (w : RoundView) (inbox : List (Batch V A)) (arcs : List NumberedEdge) (l : RoundLine) (layers : CopyLayers V) where
  -- the pending copies, with what a stage stages that is computed
  abbrev pub pending_after : Todo → List (VertexCopy V)
  pending_after Todo.Compute = round_rows P p w.epoch (without_place w.parties p) inbox layers.stable arcs l.exchange.stage layers.pending
  pending_after _ = layers.pending

  -- the batch of the stage to q
  abbrev pub batch_to : ℕ → Batch V A
  batch_to q = record {
    serial = w.serial;
    epoch = w.epoch;
    round = w.round;
    sender = p;
    receiver = q;
    body = round_body P p w.epoch (without_place w.parties p) inbox layers.stable arcs w.theta q l.exchange.stage;
  }

  abbrev pub answer_to : Todo → Act V A
  answer_to Todo.Compute = act.Computed l.exchange.stage
  answer_to (Todo.Send q) = act.Sent (batch_to q)
  answer_to Todo.Report = act.Ready (due_count p layers.pending)
  answer_to (Todo.Wait s q) = act.Waiting s q
  answer_to _ = act.Rest

  -- the same for what comes next
  abbrev pub next_pending : List (VertexCopy V)
  next_pending = pending_after (next_at p w inbox l)

  abbrev pub next_answer : Act V A
  next_answer = answer_to (next_at p w inbox l)
