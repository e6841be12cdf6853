-- The schedule that a text says, or the fault of its first faulty line.
use Rattle.std.specs.Prelude.{ℕ, ◌+◌, Bool, ◌==◌, nat_lt, if◌then◌else◌, List, [], ◌∷◌, length, map, take, codes, slice_index, slice_index_or, Option, Some, None, option_map}
use Rattle.std.specs.List.{slice_split, flat_map, fold, list_all}
use Rattle.std.specs.Str.{bytes_eq}
use Rattle.std.specs.Option.{option_or}
use Rattle.gr_base.specs.Places.{with_place}
use Rattle.gr_text.specs.Faults.{first_fault_by}
use Rattle.gr_text.specs.Fields.{fields_of}
use Rattle.gr_text.specs.Lines.{is_line_end, without_return_of}
use Rattle.gr_sched.specs.declared.event.Event.TheVariants as event
use Rattle.gr_sched.specs.declared.event.Line.{Line}
use Rattle.gr_sched.specs.declared.event.Line.TheVariants as line
use Rattle.gr_sched.specs.declared.line.Keyword.{Keyword}
use Rattle.gr_sched.specs.declared.line.Keyword.TheVariants as keyword
use Rattle.gr_sched.specs.declared.line.LineFound.{LineFound}
use Rattle.gr_sched.specs.declared.line.LineFound.TheVariants.{Skipped, Found, Misplaced, Bad}
use Rattle.gr_sched.specs.declared.fault.SchedFault.{SchedFault}
use Rattle.gr_sched.specs.declared.fault.SchedFault.TheVariants.{BadLine, PlaceOutOfRange, TooManyEvents}
use Rattle.gr_sched.specs.Fields.{number_of, only_number, all_numbers}

-- how many event lines a schedule may have
abbrev pub max_events : ℕ
max_events = 200000

abbrev pub is_word : List ℕ → List ℕ → Bool
is_word word field = bytes_eq field word

abbrev pub keyword_of : List ℕ → Keyword
keyword_of f =
    if is_word (codes "work") f then keyword.Work else (if is_word (codes "deliver") f then keyword.Deliver else (if is_word (codes "drop") f then keyword.Drop else
    (if is_word (codes "crash") f then keyword.Crash else (if is_word (codes "barrier") f then keyword.Barrier else (if is_word (codes "recover") f then keyword.Recover else
    (if is_word (codes "repair") f then keyword.Repair else (if is_word (codes "discard") f then keyword.Discard else (if is_word (codes "settle") f then keyword.Settle else
    (if is_word (codes "finish") f then keyword.Finish else keyword.Unknown)))))))))

-- a line of one word
abbrev pub bare : Line → List (List ℕ) → Option Line
bare l [] = Some l
bare l (f ∷ fs) = None

-- what a crash keeps: nothing, or `keep n`
abbrev pub kept_of : List (List ℕ) → Option ℕ
kept_of [] = Some 0
kept_of (k ∷ fs) = if is_word (codes "keep") k then only_number fs else None

abbrev pub crash_at : Option ℕ → Option ℕ → Option Line
crash_at (Some p) (Some n) = Some (line.Step (event.Crash p n))
crash_at _ _ = None

abbrev pub crash_of : List (List ℕ) → Option Line
crash_of [] = None
crash_of (p ∷ fs) = crash_at (number_of p) (kept_of fs)

-- the places of a rebirth, each once
abbrev pub reborn_at : List ℕ → Line
reborn_at ns = line.Step (event.Recover (fold with_place [] ns))

abbrev pub rebirth_of : List (List ℕ) → Option Line
rebirth_of [] = None
rebirth_of (f ∷ fs) = option_map reborn_at (all_numbers (f ∷ fs))

abbrev pub recover_of : List (List ℕ) → Option Line
recover_of [] = Some (line.Step (event.Recover []))
recover_of (r ∷ fs) = if is_word (codes "rebirth") r then rebirth_of fs else None

-- the line that a keyword and the words after it say, if they are one of the forms
abbrev pub said_by : Keyword → List (List ℕ) → Option Line
said_by keyword.Work fs = option_map (λ p. line.Step (event.Work p)) (only_number fs)
said_by keyword.Deliver fs = option_map (λ i. line.Step (event.Deliver i)) (only_number fs)
said_by keyword.Drop fs = option_map (λ i. line.Step (event.Discarded i)) (only_number fs)
said_by keyword.Crash fs = crash_of fs
said_by keyword.Barrier fs = bare (line.Step event.Barrier) fs
said_by keyword.Recover fs = recover_of fs
said_by keyword.Repair fs = bare (line.Step event.Repair) fs
said_by keyword.Discard fs = bare (line.Step event.Discard) fs
said_by keyword.Settle fs = bare line.Settle fs
said_by keyword.Finish fs = bare line.Finish fs
said_by keyword.Unknown fs = None

-- the places that a line names
abbrev pub places_of : Line → List ℕ
places_of (line.Step (event.Work p)) = p ∷ []
places_of (line.Step (event.Crash p n)) = p ∷ []
places_of (line.Step (event.Recover ps)) = ps
places_of _ = []

abbrev pub are_below : ℕ → List ℕ → Bool
are_below places ps = list_all (λ p. nat_lt p places) ps

-- a line that is none of the forms, or one that names a place that is not there
abbrev pub placed : ℕ → Option Line → LineFound
placed places None = Bad
placed places (Some l) = if are_below places (places_of l) then Found l else Misplaced

-- a line without words is skipped, and so is one that begins with #
abbrev pub of_fields : ℕ → List (List ℕ) → LineFound
of_fields places [] = Skipped
of_fields places (f ∷ fs) = if slice_index f 0 == 35 then Skipped else placed places (said_by (keyword_of f) fs)

abbrev pub line_of : ℕ → List ℕ → LineFound
line_of places line = of_fields places (fields_of (without_return_of line))

-- what the lines of a text say: the pieces between line ends
abbrev pub lines_of : ℕ → List ℕ → List LineFound
lines_of places bytes = map (line_of places) (slice_split is_line_end bytes)

-- the schedule's line that a line says
abbrev pub said : LineFound → List Line
said (Found l) = l ∷ []
said _ = []

-- the lines that are said, in their order
abbrev pub schedule_of : List LineFound → List Line
schedule_of found = flat_map said found

-- what is wrong with a line by itself
abbrev pub fault_of_line : ℕ → LineFound → Option SchedFault
fault_of_line number Bad = Some (BadLine number)
fault_of_line number Misplaced = Some (PlaceOutOfRange number)
fault_of_line number _ = None

-- that a line brings more events than a schedule may have
abbrev pub fault_of_count : ℕ → ℕ → List Line → Option SchedFault
fault_of_count limit number ls = if nat_lt limit (length ls) then Some (TooManyEvents number) else None

-- the fault that a line shows, with the events of the lines up to it and its own
abbrev pub fault_at : ℕ → List LineFound → ℕ → Option SchedFault
fault_at limit found i =
    option_or (fault_of_line (i + 1) (slice_index_or found i Skipped)) (fault_of_count limit (i + 1) (schedule_of (take (i + 1) found)))

-- the fault of the first line that shows one; lines are numbered from 1
abbrev pub first_fault_within : ℕ → List LineFound → Option SchedFault
first_fault_within limit found = first_fault_by (fault_at limit found) (length found)

abbrev pub first_fault : List LineFound → Option SchedFault
first_fault = first_fault_within max_events
