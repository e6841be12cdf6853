use Rattle.std.proofs.Common.{◌-◌, ◌^◌, arith}
use Rattle.std.proofs.lemmas.Nat.{and_le_l}
use Rattle.gr_base.proofs.Bits.{are_places}
use Rattle.gr_base.proofs.TwoSets.{places-difference}
use Rattle.gr_base.proofs.place_set.PlaceSet.difference.Goals as goal

pub invariant_of-result : goal.invariant_of-result
invariant_of-result c = omega (arith, c.self.invariant, and_le_l c.self.inside.bits (2 ^ 64 - 1 - c.other.inside.bits))

pub returns-clause-difference : goal.returns-clause-difference
returns-clause-difference c = rw (← c.self.view_is, ← c.other.view_is) (places-difference c.self.inside.bits c.other.inside.bits c.other.invariant)

pub returns-clause-places : goal.returns-clause-places
returns-clause-places c = rw (← c.self.view_is) (are_places c.self.inside.bits)
