-- What the lines before one say, with one line more.
use Rattle.std.proofs.Common.{◌≡◌, ℕ, ◌+◌, ◌<◌, List, [], ◌∷◌, ◌++◌, length, take, drop, Option, Some, None, sym, ap, ◌∙◌, arith, inl, inr, length-drop}
use Rattle.std.specs.Option.{option_or}
use Rattle.std.proofs.lemmas.Bool.{cases_eq}
use Rattle.std.proofs.lemmas.List.{take_all, append-nil}
use Rattle.std.proofs.lemmas.List.Concat.{flat_map-append}
use Rattle.gr_sched.specs.declared.event.Line.{Line}
use Rattle.gr_sched.specs.declared.line.LineFound.{LineFound}
use Rattle.gr_sched.specs.declared.line.LineFound.TheVariants.{Skipped}
use Rattle.gr_sched.specs.declared.fault.SchedFault.{SchedFault}
use Rattle.gr_sched.specs.Reading.{said, schedule_of, fault_of_line, fault_of_count, fault_at, first_fault, max_events}
use Rattle.gr_text.proofs.Faults.{first_fault_by-none, first_fault_by-some}
use Rattle.gr_text.proofs.Prefixes.{item-below, get_or-item, take-item}

-- The first k lines were taken, and show no fault.
pub record IsTaken (found : List LineFound) (k : ℕ) (lines : List Line) : Type 0 where
  pub lines_are : lines ≡ schedule_of (take k found)
  pub sound : (i : ℕ) → i < k → fault_at max_events found i ≡ None

module _ (found : List LineFound) (k : ℕ) (lines : List Line) (taken : IsTaken found k lines) (line : LineFound) (more : List LineFound) (left : line ∷ more ≡ drop k found) where
  prefix : take (k + 1) found ≡ take k found ++ line ∷ []
  prefix = take-item found k line more left

  schedule-after : lines ++ said line ≡ schedule_of (take (k + 1) found)
  schedule-after =
      ap (λ (ls : List Line). ls ++ said line) taken.lines_are
      ∙ ap (λ (ls : List Line). schedule_of (take k found) ++ ls) (sym (append-nil (said line)))
      ∙ sym (flat_map-append said (take k found) (line ∷ []))
      ∙ ap schedule_of (sym prefix)

  abbrev fault : Option SchedFault
  fault = option_or (fault_of_line (k + 1) line) (fault_of_count max_events (k + 1) (lines ++ said line))

  fault-here : fault_at max_events found k ≡ fault
  fault-here = λ t. option_or (fault_of_line (k + 1) (get_or-item found k line more left Skipped t)) (fault_of_count max_events (k + 1) (sym schedule-after t))

  -- a line with no fault
  pub taken-after : (new : List Line) → new ≡ lines ++ said line → fault_of_line (k + 1) line ≡ None → fault_of_count max_events (k + 1) new ≡ None → IsTaken found (k + 1) new
  taken-after new same sound few = record {
    lines_are = same ∙ schedule-after;
    sound = λ i lt. elim (cases_eq i k) [
      | inl last ↦
          ap (fault_at max_events found) last ∙ fault-here
          ∙ (λ t. option_or (sound t) (fault_of_count max_events (k + 1) (sym same t))) ∙ few
      | inr earlier ↦ taken.sound i (omega arith)
    ];
  }

  -- a line with a fault
  pub fault-found : (shown : SchedFault) → fault ≡ Some shown → first_fault found ≡ Some shown
  fault-found shown is = first_fault_by-some (fault_at max_events found) (length found) k shown (item-below found k line more left) taken.sound (fault-here ∙ is)

-- all lines were taken
module _ (found : List LineFound) (k : ℕ) (lines : List Line) (taken : IsTaken found k lines) (left : [] ≡ drop k found) where
  all : take k found ≡ found
  all = take_all k found (omega (arith, ap length left, length-drop k found))

  pub all-lines : lines ≡ schedule_of found
  all-lines = taken.lines_are ∙ ap schedule_of all

  pub no-fault : first_fault found ≡ None
  no-fault = first_fault_by-none (fault_at max_events found) (length found) (λ i lt. taken.sound i (omega (arith, ap length left, length-drop k found)))

-- no line was taken
pub none-taken : (found : List LineFound) (lines : List Line) → lines ≡ [] → IsTaken found 0 lines
none-taken found lines none = record { lines_are = none; sound = λ i lt. absurd (omega arith) }
