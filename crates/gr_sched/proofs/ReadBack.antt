-- The text of a schedule says the schedule.
use Rattle.std.proofs.Common.{◌≡◌, ℕ, ◌+◌, ◌<◌, ◌≤◌, false, ltb, get_or, List, [], ◌∷◌, ◌++◌, length, map, take, drop, None, refl, sym, ap, ◌∙◌, subst, arith, length-append}
use Rattle.std.specs.List.{All}
use Rattle.std.specs.Option.{option_or}
use Rattle.std.proofs.lemmas.Bool.{cond-false, le-ltb}
use Rattle.std.proofs.lemmas.List.{take-append-drop, take_more, flat_map_more}
use Rattle.std.proofs.lemmas.List.Concat.{flat_map-append}
use Rattle.std.proofs.lemmas.List.Elements.{All-cons, All-more}
use Rattle.gr_sched.specs.declared.event.Line.{Line}
use Rattle.gr_sched.specs.declared.line.LineFound.{LineFound}
use Rattle.gr_sched.specs.declared.line.LineFound.TheVariants.{Skipped, Found}
use Rattle.gr_sched.specs.Reading.{said, schedule_of, fault_of_line, fault_of_count, fault_at, first_fault, max_events}
use Rattle.gr_sched.specs.Text.{line_text, schedule_text}
use Rattle.gr_sched.specs.Printed.{IsLine, IsWithin, IsReadAs}
use Rattle.gr_text.proofs.Faults.{first_fault_by-none}
use Rattle.gr_sched.proofs.Printed.{lines-said}

-- one line more
pub schedule-more : (now new : List ℕ) (ls : List Line) (i : ℕ) (x : Line) → i < length ls → x ≡ get_or ls i x → now ≡ schedule_text (take i ls) → new ≡ now ++ line_text x → new ≡ schedule_text (take (i + 1) ls)
schedule-more now new ls i x lt at so_far is =
    is ∙ ap (λ (l : List ℕ). l ++ line_text x) so_far ∙ flat_map_more line_text [] (take i ls) x
    ∙ ap (λ (y : Line). schedule_text (take i ls ++ y ∷ [])) at
    ∙ ap schedule_text (sym (take_more ls i x lt))

pub lines-more : (ls : List Line) (i : ℕ) (x : Line) → i < length ls → x ≡ get_or ls i x → All IsLine (take i ls) → IsLine x → All IsLine (take (i + 1) ls)
lines-more ls i x lt at so_far is = All-more IsLine ls i x lt so_far (subst IsLine at is)

-- fewer lines say fewer events
schedule-grows : (found : List LineFound) (k : ℕ) → length (schedule_of (take k found)) ≤ length (schedule_of found)
schedule-grows found k =
    omega (arith, ap (λ (ls : List LineFound). length (schedule_of ls)) (take-append-drop k found), ap length (flat_map-append said (take k found) (drop k found)), length-append (schedule_of (take k found)) (schedule_of (drop k found)))

IsSound : LineFound → Type 0
IsSound l = (number : ℕ) → fault_of_line number l ≡ None

-- lines with no fault of their own, and not too many
no-fault : (found : List LineFound) → All IsSound found → length (schedule_of found) ≤ max_events → first_fault found ≡ None
unfolding IsSound
no-fault found sound few = first_fault_by-none (fault_at max_events found) (length found) (λ i lt.
    let no_more : ltb max_events (length (schedule_of (take (i + 1) found))) ≡ false = le-ltb _ _ (omega (arith, few, schedule-grows found (i + 1))) in
    (λ t. option_or (sound i Skipped (omega arith) (i + 1) t) (fault_of_count max_events (i + 1) (schedule_of (take (i + 1) found))))
    ∙ cond-false _ _ _ no_more)

abbrev all_found : List Line → List LineFound
all_found ls = map Found ls ++ Skipped ∷ []

sound-found : (ls : List Line) → All IsSound (all_found ls)
unfolding IsSound
sound-found [] = All-cons IsSound Skipped [] (λ number. refl) (λ k d lt. absurd (omega arith))
sound-found (l ∷ ls) = All-cons IsSound (Found l) (all_found ls) (λ number. refl) (sound-found ls)

schedule-found : (ls : List Line) → schedule_of (all_found ls) ≡ ls
schedule-found [] = refl
schedule-found (l ∷ ls) = ap (λ (ms : List Line). l ∷ ms) (schedule-found ls)

pub read-back : (places : ℕ) (ls : List Line) → All IsLine ls → All (IsWithin places) ls → length ls ≤ max_events → IsReadAs places (schedule_text ls) ls
read-back places ls are within few =
    let lines = lines-said places ls are within in
    record {
      no_fault = ap first_fault lines ∙ no-fault (all_found ls) (sound-found ls) (omega (arith, few, ap length (schedule-found ls)));
      its_lines = ap schedule_of lines ∙ schedule-found ls;
    }
