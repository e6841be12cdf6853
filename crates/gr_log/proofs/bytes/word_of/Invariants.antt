use Rattle.std.proofs.Common.{◌≡◌, ◌<◌}
use Rattle.gr_base.specs.Rising.{has}
use Rattle.gr_base.specs.Places.{IsPlaces}
use Rattle.gr_base.specs.PlaceBits.{members_from, is_bit}
use Rattle.gr_base.proofs.PlaceSets.{members_to}
use Rattle.gr_log.proofs.bytes.word_of.Given as goal

abbrev pub invariant-loop-p : goal.invariant-loop-p
invariant-loop-p l = record {
  places : 0 < l.p → IsPlaces l.places;
  word : members_from (is_bit l.word) 0 64 ≡ members_to (has l.places) l.p;
}
