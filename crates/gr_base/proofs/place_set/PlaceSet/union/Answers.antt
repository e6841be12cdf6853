use Rattle.std.proofs.lemmas.Nat.{or_lt}
use Rattle.gr_base.proofs.TwoSets.{places-union}
use Rattle.gr_base.proofs.place_set.PlaceSet.union.Goals as goal

pub invariant_of-result : goal.invariant_of-result
invariant_of-result c = or_lt 64 _ _ c.self.invariant c.other.invariant

pub returns : goal.returns
returns c = rw (← c.self.view_is, ← c.other.view_is) (places-union c.self.inside.bits c.other.inside.bits)
