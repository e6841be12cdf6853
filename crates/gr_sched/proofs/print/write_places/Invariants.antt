use Rattle.std.proofs.Common.{◌≡◌, ◌<◌, ◌++◌, ltb}
use Rattle.std.specs.List.{filter}
use Rattle.gr_base.specs.Places.{IsPlaces}
use Rattle.gr_sched.specs.EventText.{words}
use Rattle.gr_sched.proofs.print.write_places.Given as goal

abbrev pub invariant-loop-p : goal.invariant-loop-p
invariant-loop-p l = record {
  told : l.text.items ≡ l.initial.text.items ++ words (filter (λ q. ltb q l.p) l.places);
  places : 0 < l.p → IsPlaces l.places;
}
