-- An event as it stands in a schedule.
use Rattle.std.specs.Prelude.{ℕ, ◌==◌, List, [], ◌∷◌, ◌++◌, flat_map, codes, if◌then◌else◌}
use Rattle.gr_sched.specs.declared.event.Event.{Event}
use Rattle.gr_sched.specs.declared.event.Event.TheVariants as event
use Rattle.gr_sched.specs.Words.{word}

abbrev pub words : List ℕ → List ℕ
words ns = flat_map word ns

-- what a crash keeps is told where it is not 0
abbrev pub keep_text : ℕ → List ℕ
keep_text n = if n == 0 then [] else codes " keep" ++ word n

-- and the places that start anew where there are some
abbrev pub rebirth_text : List ℕ → List ℕ
rebirth_text [] = []
rebirth_text (p ∷ ps) = codes " rebirth" ++ words (p ∷ ps)

-- an event as it stands in a schedule
abbrev pub event_text : Event → List ℕ
event_text (event.Work p) = codes "work" ++ word p
event_text (event.Deliver i) = codes "deliver" ++ word i
event_text (event.Discarded i) = codes "drop" ++ word i
event_text (event.Crash p n) = codes "crash" ++ word p ++ keep_text n
event_text event.Barrier = codes "barrier"
event_text (event.Recover ps) = codes "recover" ++ rebirth_text ps
event_text event.Repair = codes "repair"
event_text event.Discard = codes "discard"
