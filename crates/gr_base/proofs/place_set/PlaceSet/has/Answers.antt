use Rattle.gr_base.proofs.PlaceTests.{is_has}
use Rattle.gr_base.proofs.Bits.{has-place, are_places}
use Rattle.gr_base.proofs.place_set.PlaceSet.has.Goals as goal

pub returns-clause-member : goal.returns-clause-member
returns-clause-member c = rw (← c.self.view_is) (has-place c.self.inside.bits c.args.p c.requires)

pub returns-clause-places : goal.returns-clause-places
returns-clause-places c = rw (← c.self.view_is) (are_places c.self.inside.bits)

pub returns-clause-test : goal.returns-clause-test
returns-clause-test c = is_has _ c.args.self.now c.args.p (rw (← c.self.view_is) (has-place c.self.inside.bits c.args.p c.requires))
