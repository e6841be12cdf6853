use Rattle.std.proofs.Common.{◌≡◌, ◌==◌, ◌∙◌, sym, rules, tests}
use Rattle.std.specs.List.{position}
use Rattle.std.proofs.lemmas.Iterator.{YieldsList-from_slice}
use Rattle.std.proofs.lemmas.Iterator.Search.{position_from_yields_List}
use Rattle.gr_flight.proofs.flight.Flight.place_of.Goals as goal

pub returns-in_err-at : goal.returns-in_err-at
returns-in_err-at g c =
    let found : c.position.result ≡ position (λ b. b.serial == c.args.serial) c.args.self.now = position_from_yields_List (λ b. b.serial == c.args.serial) _ _ c.position.result c.position.ensures.ran (YieldsList-from_slice c.args.self.now cc) (λ x b q k. search (rules, tests)) in
    c.from_residual.ensures ∙ sym c.in_err-at.was ∙ found

pub returns : goal.returns
returns g c =
    let found : c.position.result ≡ position (λ b. b.serial == c.args.serial) c.args.self.now = position_from_yields_List (λ b. b.serial == c.args.serial) _ _ c.position.result c.position.ensures.ran (YieldsList-from_slice c.args.self.now cc) (λ x b q k. search (rules, tests)) in
    sym c.in_ok-at.was ∙ found
