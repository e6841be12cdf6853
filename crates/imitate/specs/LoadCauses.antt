-- Why an input was not loaded.
use Rattle.std.specs.Prelude.{◌≡◌, ◌<◌, length, Some, IfSome}
use Rattle.gr_outside.specs.Causes.{Rose}
use Rattle.gr_outside.specs.Files.{FilesSeen, longest}
use Rattle.imitate.specs.declared.refusal.Refusal.{Refusal}
use Rattle.imitate.specs.declared.refusal.Refusal.TheVariants as refusal
use Rattle.imitate.specs.Words.{FileNames}
use Rattle.imitate.specs.Refusals.{name_of}
use Rattle.imitate.specs.Contents.{content}

-- why an input was not loaded: memory ran out; a load failed in this call, where told it is the last that did; a load took
-- too many bytes in this call, where told the file has too many
abbrev pub IsLoadCause : FilesSeen → FilesSeen → FileNames → Refusal → Type 0
IsLoadCause before after names refusal.OutOfMemory = Unit {0}
IsLoadCause before after names (refusal.Unreadable input) =
    Rose before.load_faults after.load_faults × IfSome before.told (λ t. IfSome after.told (λ u. u.failed ≡ Some (name_of names input)))
IsLoadCause before after names (refusal.TooLong input) =
    Rose before.long_loads after.long_loads × IfSome before.told (λ t. longest < length (content t (name_of names input)))
IsLoadCause before after names other = ⊥
