use Rattle.std.proofs.Common.{◌≡◌, ◌-◌, length, take}
use Rattle.gr_play.proofs.FirstPlaces.{firsts}
use Rattle.gr_play.proofs.canonical.first_places.Given as goal

abbrev pub invariant-loop-p : goal.invariant-loop-p
invariant-loop-p l = (l.first ≡ take l.fn.count (firsts l.p l.fn.places)) × (l.left ≡ l.fn.count - length (firsts l.p l.fn.places))
