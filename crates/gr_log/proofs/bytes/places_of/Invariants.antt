use Rattle.std.proofs.Common.{◌≡◌}
use Rattle.gr_base.specs.PlaceBits.{is_bit}
use Rattle.gr_base.proofs.PlaceSets.{members_to}
use Rattle.gr_log.proofs.bytes.places_of.Given as goal

abbrev pub invariant-loop-p : goal.invariant-loop-p
invariant-loop-p l = l.places ≡ members_to (is_bit l.word) l.p
