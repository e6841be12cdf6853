use Rattle.std.proofs.Common.{◌-◌, ◌^◌, arith}
use Rattle.std.proofs.lemmas.Nat.{and_le_l}
use Rattle.gr_base.proofs.TwoSets.{places-includes}
use Rattle.gr_base.proofs.place_set.PlaceSet.includes.Goals as goal

pub returns : goal.returns
returns c = rw (← c.self.view_is, ← c.other.view_is) (places-includes c.self.inside.bits c.other.inside.bits c.self.invariant (omega (arith, c.other.invariant, and_le_l c.other.inside.bits (2 ^ 64 - 1 - c.self.inside.bits))))
