-- The measure `to_go`: each canonical event lowers it, no other event raises it by much, and it is bounded.
use Rattle.std.specs.Prelude.{◌+◌, ◌-◌, ◌*◌, ◌≡◌, ◌<◌, ◌≤◌, max, IsTrue, Some, length}
use Rattle.gr_program.specs.Program.{Program}
use Rattle.gr_program.specs.ProgramLaws.{ProgramLaws}
use Rattle.gr_sched.specs.declared.event.Event.{Event}
use Rattle.gr_sched.specs.declared.event.Line.TheVariants as line
use Rattle.gr_sched.specs.Reading.{places_of, are_below}
use Rattle.gr_cluster.specs.Tables.{Cluster}
use Rattle.gr_cluster.specs.Step.{step}
use Rattle.gr_cluster.specs.Canonical.{next_canonical}
use Rattle.gr_cluster.specs.ToGo.{most_left, most_added, to_go}
use Rattle.gr_agree.specs.Agree.{Invariant}
use Rattle.gr_agree.specs.Accepted.{NamesPlaces}

-- what a canonical event makes of a cluster
pub record GoesOn {V A : Type 0} (P : Program V A) (c : Cluster V A) (e : Event) : Type 0 where
  -- the end comes nearer
  pub nearer : to_go (step P c e).0 < to_go c
  -- a batch is sent only where none is in flight
  pub flight : length (step P c e).0.flight ≤ max (length c.flight) 1
  -- the places that the event names are places of the cluster
  pub placed : IsTrue (are_below c.places (places_of (line.Step e)))

abbrev pub CanonicalEventsGoOn : (V A : Type 0) → Type 0
CanonicalEventsGoOn V A =
    (P : Program V A) → ProgramLaws P → (c : Cluster V A) (e : Event) → Invariant P c → next_canonical c ≡ Some e → GoesOn P c e

-- any event, a crash too, adds fewer canonical events to come than four whole epochs have
abbrev pub EventsAddFew : (V A : Type 0) → Type 0
EventsAddFew V A =
    (P : Program V A) → ProgramLaws P → (c : Cluster V A) (e : Event) → NamesPlaces e → Invariant P c
    → to_go (step P c e).0 < to_go c + most_added

-- the batches in flight, and an epoch for each round below the limit and four beside
abbrev pub ToGoIsBounded : (V A : Type 0) → Type 0
ToGoIsBounded V A =
    (P : Program V A) (c : Cluster V A) → Invariant P c
    → to_go c ≤ length c.flight + most_left * (c.coordinator.limit - c.coordinator.round + 4)
