use Rattle.std.proofs.Common.{◌≡◌, ◌<◌}
use Rattle.gr_base.specs.Places.{IsPlaces, word_of}
use Rattle.gr_base.specs.PlaceBits.{members_from}
use Rattle.gr_base.specs.Rising.{has}
use Rattle.gr_batch.proofs.holders.word_of.Given as goal

abbrev pub invariant-loop-p : goal.invariant-loop-p
invariant-loop-p l = record {
  places : 0 < l.p → IsPlaces l.places;
  so_far : l.word ≡ word_of (members_from (has l.places) 0 l.p);
}
