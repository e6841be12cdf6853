use Rattle.std.proofs.Common.{◌∙◌, ap, sym}
use Rattle.gr_base.specs.Places.{first_from}
use Rattle.gr_copies.proofs.Granting.{member-below, first-granter, none-left}
use Rattle.gr_copies.proofs.granter.acting_master.Goals as goal

pub first_from-requires : goal.first_from-requires
first_from-requires c = member-below c.args.dir.now.holders c.args.dir.now.master 64 c.requires c.difference.ensures.places.below

pub returns-clause-granter : goal.returns-clause-granter
returns-clause-granter c =
    let dir = c.args.dir.now in
    c.first_from.ensures.first ∙ ap (λ l. first_from l dir.master) c.difference.ensures.difference ∙ first-granter c.args.dead dir.holders dir.master c.difference.ensures.places.rise c.requires

pub returns-clause-none : goal.returns-clause-none
returns-clause-none c =
    let left = none-left c.args.dir.now.holders c.args.dead in
    ((λ none. left.0 (sym c.difference.ensures.difference ∙ c.first_from.ensures.none.0 none)), (λ all. c.first_from.ensures.none.1 (c.difference.ensures.difference ∙ left.1 all)))
