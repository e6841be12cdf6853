-- The loading of an input.
use Rattle.std.specs.Prelude.{◌≡◌, ◌≤◌, ℕ, List, length, Some, Result, IfOk, IfErr, OnOk, IfSome}
use Rattle.gr_outside.specs.Files.{FilesSeen, longest, bytes_of}
use Rattle.imitate.specs.declared.refusal.Input.{Input}
use Rattle.imitate.specs.declared.refusal.Refusal.{Refusal}
use Rattle.imitate.specs.declared.refusal.Refusal.TheVariants as refusal
use Rattle.imitate.specs.Words.{FileNames}
use Rattle.imitate.specs.Refusals.{name_of}
use Rattle.imitate.specs.Contents.{KeepsFiles}
use Rattle.imitate.specs.LoadCauses.{IsLoadCause}

-- nothing was counted, and all that is told is as before
pub record IsQuiet (before after : FilesSeen) : Type 0 where
  pub load_faults : after.load_faults ≡ before.load_faults
  pub long_loads : after.long_loads ≡ before.long_loads
  pub write_faults : after.write_faults ≡ before.write_faults
  pub told : IfSome before.told (λ t. after.told ≡ Some t)

-- where a refusal is of an input that was not loaded, it is of this one
abbrev pub IsOfInput : Input → Refusal → Type 0
IsOfInput input (refusal.Unreadable which) = which ≡ input
IsOfInput input (refusal.TooLong which) = which ≡ input
IsOfInput input other = Unit {0}

-- one load: the whole file, of no more bytes than one may have, or a cause, which is of this input
pub record LoadsInput {A : Type 0} (bytes_in : A → List ℕ) (before after : FilesSeen) (names : FileNames) (input : Input) (result : Result A Refusal) : Type 0 where
  pub small : IfOk result (λ v. length (bytes_in v) ≤ longest)
  pub whole : IfOk result (λ v. IfSome before.told (λ t. bytes_of t.files (name_of names input) ≡ Some (bytes_in v)))
  pub quiet : OnOk result (IsQuiet before after)
  pub cause : IfErr result (IsLoadCause before after names)
  pub about : IfErr result (IsOfInput input)
  pub kept : KeepsFiles before after
