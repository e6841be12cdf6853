-- A schedule's text and what a text says, by computation.
use Rattle.std.proofs.Common.{◌≡◌, [], ◌∷◌, Some, None, refl}
use Rattle.std.specs.Prelude.{codes}
use Rattle.std.specs.Fmt.{digits}
use Rattle.gr_sched.specs.declared.event.Event.TheVariants as event
use Rattle.gr_sched.specs.declared.event.Line.TheVariants as line
use Rattle.gr_sched.specs.declared.line.LineFound.TheVariants.{Skipped, Found, Misplaced, Bad}
use Rattle.gr_sched.specs.declared.fault.SchedFault.TheVariants.{PlaceOutOfRange, TooManyEvents}
use Rattle.gr_sched.specs.Reading.{lines_of, first_fault_within}
use Rattle.gr_sched.specs.Text.{schedule_text}

-- a crash that keeps nothing, and a rebirth of two places
crash_and_rebirth : schedule_text (line.Step (event.Crash 1 0) ∷ line.Step (event.Recover (0 ∷ 3 ∷ [])) ∷ []) ≡ codes "crash 1\nrecover rebirth 0 3\n"
unfolding digits
crash_and_rebirth = refl

every_form : schedule_text (line.Step (event.Work 12) ∷ line.Step (event.Deliver 0) ∷ line.Step (event.Discarded 4294967295) ∷ line.Step (event.Crash 63 7) ∷ line.Step event.Barrier ∷ line.Step (event.Recover []) ∷ line.Step event.Repair ∷ line.Step event.Discard ∷ line.Settle ∷ line.Finish ∷ []) ≡ codes "work 12\ndeliver 0\ndrop 4294967295\ncrash 63 keep 7\nbarrier\nrecover\nrepair\ndiscard\nsettle\nfinish\n"
unfolding digits
every_form = refl

lines_are_told : lines_of 4 (codes "work 03\r\n# x\nrecover rebirth 3 0 3\nwork 4\ncrash 1 keep") ≡ Found (line.Step (event.Work 3)) ∷ Skipped ∷ Found (line.Step (event.Recover (0 ∷ 3 ∷ []))) ∷ Misplaced ∷ Bad ∷ []
lines_are_told = refl

-- a number past 32 bits goes before a place that is not there
number_before_place : lines_of 4 (codes "crash 4 keep 4294967296") ≡ Bad ∷ []
number_before_place = refl

-- skipped lines are counted as lines, and not as events
second_event_too_many : first_fault_within 1 (Found line.Settle ∷ Skipped ∷ Found line.Finish ∷ Bad ∷ []) ≡ Some (TooManyEvents 3)
second_event_too_many = refl

place_before_count : first_fault_within 0 (Misplaced ∷ []) ≡ Some (PlaceOutOfRange 1)
place_before_count = refl

just_within : first_fault_within 1 (Skipped ∷ Found line.Settle ∷ []) ≡ None
just_within = refl
