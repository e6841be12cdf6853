use Rattle.std.proofs.Common.{sym, ap, ◌∙◌, ◌∷◌}
use Rattle.gr_base.proofs.WithPlace.{split-without_place}
use Rattle.gr_base.proofs.place_set.PlaceSet.split_first.Goals as goal

pub returns-clause-parts : goal.returns-clause-parts
returns-clause-parts c =
    split-without_place c.args.self c.in_ok-p.p c.in_ok-p.ensures.places (sym c.in_ok-p.ensures.first)
    ∙ ap (λ ps. c.in_ok-p.p ∷ ps) (sym c.without.ensures)
