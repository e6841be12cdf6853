use Rattle.std.proofs.Common.{◌≡◌, ◌<◌, ℕ, true}
use Rattle.std.specs.List.{list_any}
use Rattle.gr_base.specs.Places.{IsPlaces}
use Rattle.gr_base.specs.Rising.{has}
use Rattle.gr_batch.specs.Bodies.{is_of}
use Rattle.gr_flight.proofs.inbox.Inbox.first_missing.Given as goal

abbrev pub invariant-loop-p : goal.invariant-loop-p
invariant-loop-p g l = record {
  places : 0 < l.p → IsPlaces l.senders;
  passed : (q : ℕ) → q < l.p → has l.senders q ≡ true → list_any (is_of q l.epoch l.stage) l.self ≡ true;
}
