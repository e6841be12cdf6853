-- That a text says a schedule.
use Rattle.std.specs.Prelude.{◌≡◌, ℕ, ◌^◌, ◌<◌, ⊤, true, List, None}
use Rattle.gr_base.specs.Places.{IsPlaces}
use Rattle.gr_sched.specs.declared.event.Line.{Line}
use Rattle.gr_sched.specs.declared.event.Line.TheVariants as line
use Rattle.gr_sched.specs.declared.event.Event.{Event}
use Rattle.gr_sched.specs.declared.event.Event.TheVariants as event
use Rattle.gr_sched.specs.Reading.{lines_of, schedule_of, first_fault, are_below, places_of}

-- the numbers of an event are of 32 bits, and its places are a set
abbrev pub IsEvent : Event → Type 0
IsEvent (event.Work p) = p < 2 ^ 32
IsEvent (event.Deliver i) = i < 2 ^ 32
IsEvent (event.Discarded i) = i < 2 ^ 32
IsEvent (event.Crash p n) = (p < 2 ^ 32) × (n < 2 ^ 32)
IsEvent event.Barrier = ⊤
IsEvent (event.Recover ps) = IsPlaces ps
IsEvent event.Repair = ⊤
IsEvent event.Discard = ⊤

abbrev pub IsLine : Line → Type 0
IsLine (line.Step e) = IsEvent e
IsLine line.Settle = ⊤
IsLine line.Finish = ⊤

-- each place that a line names is below a count
abbrev pub IsWithin : ℕ → Line → Type 0
IsWithin places l = are_below places (places_of l) ≡ true

-- a text shows no fault, and says these lines
pub record IsReadAs (places : ℕ) (bytes : List ℕ) (lines : List Line) : Type 0 where
  pub no_fault : first_fault (lines_of places bytes) ≡ None
  pub its_lines : schedule_of (lines_of places bytes) ≡ lines
