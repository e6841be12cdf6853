-- The place in a round that the code makes is the one by its view and its line.
use Rattle.std.proofs.Common.{◌≡◌, ℕ, Bool, List, sym}
use Rattle.gr_base.specs.Places.{without_place}
use Rattle.gr_batch.specs.declared.stage.Stage.{Stage}
use Rattle.gr_round.specs.declared.view.RoundView.{RoundView}
use Rattle.gr_round.specs.Line.{RoundLine, has_new_values}
use Rattle.gr_round.specs.Party.{party_at}

pub same-party : (p : ℕ) (w : RoundView) (l : RoundLine) (others : List ℕ) (s : Stage) (has_new : Bool) → others ≡ without_place w.parties p → s ≡ l.exchange.stage → has_new ≡ has_new_values l.exchange
    → party_at p w l ≡ record { place = p; epoch = w.epoch; others = others; stage = s; has_new_values = has_new; theta = w.theta }
same-party p w l others s has_new o t h = λ i. record { place = p; epoch = w.epoch; others = sym o i; stage = sym t i; has_new_values = sym h i; theta = w.theta }
