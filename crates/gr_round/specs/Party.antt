-- A place in a round, as its work goes by it.
use Rattle.std.specs.Prelude.{ℕ, List}
use Rattle.gr_base.specs.Places.{without_place}
use Rattle.gr_batch.specs.declared.batch.Batch.{Batch}
use Rattle.gr_batch.specs.declared.body.Body.{Body}
use Rattle.gr_batch.specs.declared.stage.Stage.{Stage}
use Rattle.gr_rules.specs.Inbox.{bodies}
use Rattle.gr_round.specs.declared.party.Party.{Party}
use Rattle.gr_round.specs.declared.view.RoundView.{RoundView}
use Rattle.gr_round.specs.Line.{RoundLine, has_new_values}

-- the place p, by the view and its line
abbrev pub party_at : ℕ → RoundView → RoundLine → Party
party_at p w l = record {
  place = p;
  epoch = w.epoch;
  others = without_place w.parties p;
  stage = l.exchange.stage;
  has_new_values = has_new_values l.exchange;
  theta = w.theta;
}

-- the bodies that the other parties sent it in a stage
abbrev pub brought_to : {V A : Type 0} → Party → List (Batch V A) → Stage → List (Body V A)
brought_to p inbox s = bodies inbox p.epoch s p.others
