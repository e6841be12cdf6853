-- What a place works out once in a round, and keeps until it is sent.
use Rattle.std.specs.Prelude.{◌≡◌, ℕ, Bool, true, false, List, IsTrue}
use Rattle.gr_base.specs.declared.records.NumberedEdge.{NumberedEdge}
use Rattle.gr_program.specs.declared.copy.VertexCopy.{VertexCopy}
use Rattle.gr_program.specs.Program.{Program}
use Rattle.gr_batch.specs.declared.batch.Batch.{Batch}
use Rattle.gr_batch.specs.declared.stage.Stage.{Stage}
use Rattle.gr_batch.specs.declared.stage.Stage.TheVariants as stage
use Rattle.gr_batch.specs.Stages.{is_end}
use Rattle.gr_rules.specs.Todo.{Todo}
use Rattle.gr_rules.specs.AtPlace.{known_values}
use Rattle.gr_signal.specs.declared.target.Target.{Target}
use Rattle.gr_signal.specs.Signals.{signalled}
use Rattle.gr_round.specs.declared.party.Party.{Party}

-- the targets of the edges of the place from the vertices that woke, by the new values that it knows
abbrev pub targets_at : {V A : Type 0} → Program V A → ℕ → ℕ → List ℕ → List (Batch V A) → List (VertexCopy V) → List NumberedEdge → List Target
targets_at P p e others inbox rows arcs = signalled (known_values P p e others inbox rows arcs) rows arcs

module _ {V A : Type 0} (P : Program V A) (p : Party) (inbox : List (Batch V A)) (rows : List (VertexCopy V)) (arcs : List NumberedEdge) where
  -- those of a place in a round
  abbrev pub targets_in : List Target
  targets_in = targets_at P p.place p.epoch p.others inbox rows arcs

  -- they are given, if they are taken
  abbrev pub TargetsGiven : Bool → List Target → Type 0
  TargetsGiven taken targets = IsTrue taken → targets ≡ targets_in

-- whether the batches of a stage are made of the targets
abbrev pub is_of_targets : Stage → Bool
is_of_targets stage.Signal = true
is_of_targets stage.Call = true
is_of_targets _ = false

-- whether what comes next takes the targets: a Signal or a Call batch is sent, or the end is computed
abbrev pub takes_targets : Stage → Todo → Bool
takes_targets s (Todo.Send q) = is_of_targets s
takes_targets s Todo.Compute = is_end s
takes_targets s _ = false
