use Rattle.std.proofs.Common.{sym, arith}
use Rattle.gr_base.proofs.Bits.{first-places, no_place, are_places}
use Rattle.gr_base.proofs.place_set.PlaceSet.first.Goals as goal

pub returns-then-self-eq0-clause-first : goal.returns-then-self-eq0-clause-first
returns-then-self-eq0-clause-first c = rw (← c.self.view_is) (sym (no_place c.self.inside.bits (omega arith)))

pub returns-else-self-eq0-clause-first : goal.returns-else-self-eq0-clause-first
returns-else-self-eq0-clause-first c = rw (← c.self.view_is) (sym (first-places c.self.inside.bits (omega arith) c.self.invariant))

pub returns-then-self-eq0-clause-places : goal.returns-then-self-eq0-clause-places
returns-then-self-eq0-clause-places c = rw (← c.self.view_is) (are_places c.self.inside.bits)

pub returns-else-self-eq0-clause-places : goal.returns-else-self-eq0-clause-places
returns-else-self-eq0-clause-places c = rw (← c.self.view_is) (are_places c.self.inside.bits)
