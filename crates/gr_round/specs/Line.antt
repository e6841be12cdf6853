-- What contracts see of how far a place is in a round, or in a rebuild.
use Rattle.std.specs.Prelude.{ℕ, List, Bool, true, false, not, ◌&&◌, ◌||◌}
use Rattle.gr_batch.specs.declared.stage.Stage.{Stage}
use Rattle.gr_batch.specs.declared.stage.Stage.TheVariants as stage
use Rattle.gr_batch.specs.Stages.{is_end}
use Rattle.gr_rules.specs.Exchange.{Exchange, begun}

-- the exchange that it is in, and whether it has reported in this epoch
pub record RoundLine : Type 0 where
  pub exchange : Exchange
  pub reported : Bool

-- a line by its parts
abbrev pub line_with : Stage → Bool → List ℕ → Bool → RoundLine
line_with s computed sent reported = record { exchange = record { stage = s; computed = computed; sent = sent }; reported = reported }

-- the start of an epoch, before a stage
abbrev pub line_before : Stage → RoundLine
line_before s = record { exchange = begun s; reported = false }

-- the start of a round
abbrev pub first_line : RoundLine
first_line = line_before stage.Gather

-- whether it is a stage of a round
abbrev pub is_of_round : Stage → Bool
is_of_round stage.Ask = false
is_of_round stage.Grant = false
is_of_round _ = true

-- whether it is a stage of a rebuild
abbrev pub is_of_rebuild : Stage → Bool
is_of_rebuild stage.Ask = true
is_of_rebuild stage.Grant = true
is_of_rebuild stage.End = true
is_of_rebuild _ = false

-- a place reports once the end is computed
abbrev pub is_line : RoundLine → Bool
is_line l = not l.reported || (l.exchange.computed && is_end l.exchange.stage)

-- whether the new values of a round are computed, by its exchange
abbrev pub is_past_update : Stage → Bool → Bool
is_past_update stage.Update computed = computed
is_past_update stage.Signal computed = true
is_past_update stage.Call computed = true
is_past_update stage.End computed = true
is_past_update _ computed = false

abbrev pub has_new_values : Exchange → Bool
has_new_values x = is_past_update x.stage x.computed
