-- What a call does to files.
use Rattle.std.specs.Prelude.{◌≡◌, ◌<◌, ◌≤◌, ◌+◌, ℕ, Bool, true, false, if◌then◌else◌, List, [], ◌++◌, length, take, Some, Result, Err, IfOk, OnOk, OnErr, IfSome, IsSomeAnd, IsErrOf, is_ok, unwrap_or}
use Rattle.std.specs.Io.{StartsWith}
use Rattle.gr_outside.specs.declared.faults.LoadFault as load
use Rattle.gr_outside.specs.declared.faults.FileFault as file
use Rattle.gr_outside.specs.Counting.{Counts}
use Rattle.gr_outside.specs.Files.{FilesTold, FilesSeen, longest, bytes_of, KeepsOthers, HasWritten, LetsGo}

-- whether a load answers that it failed
abbrev pub failed_load : {T : Type 0} → Result T load.LoadFault → Bool
failed_load (Err load.TheVariants.Failed) = true
failed_load r = false

-- a load changes no file, and only one that fails changes the name of the last that did
abbrev pub after_load : {T : Type 0} → FilesTold → List ℕ → Result T load.LoadFault → FilesTold
after_load t name result = record t { failed = if failed_load result then Some name else t.failed }

-- one call of `load`
pub record Loads {T : Type 0} (before after : FilesSeen) (name : List ℕ) (limit : ℕ) (into : List ℕ) (result : Result T load.LoadFault) : Type 0 where
  -- what was taken
  pub whole : OnOk result ((length into ≤ limit) × IfSome before.told (λ t. bytes_of t.files name ≡ Some into))
  pub part : OnErr result (IfSome before.told (λ t. StartsWith (unwrap_or (bytes_of t.files name) []) into))
  pub within : length into ≤ limit + 1
  pub too_long : IsErrOf result load.TheVariants.TooLong → length into ≡ limit + 1
  -- what was counted
  pub faults : Counts (IsErrOf result load.TheVariants.Failed) before.load_faults after.load_faults
  pub long : Counts (longest < length into) before.long_loads after.long_loads
  pub writes : after.write_faults ≡ before.write_faults
  -- what the files tell
  pub begun : after.is_begun ≡ before.is_begun
  pub told : IfSome before.told (λ t. after.told ≡ Some (after_load t name result))

-- the counts after a call that writes: none but that of the write faults changes
pub record CountsWrite {T : Type 0} (before after : FilesSeen) (result : Result T file.FileFault) : Type 0 where
  pub faults : Counts (IsErrOf result file.TheVariants.Failed) before.write_faults after.write_faults
  pub loads : after.load_faults ≡ before.load_faults
  pub long : after.long_loads ≡ before.long_loads

-- one call of `begin`
pub record Begins {T : Type 0} (before after : FilesSeen) (name : List ℕ) (result : Result T file.FileFault) : Type 0 where
  pub begun : after.is_begun ≡ is_ok result
  pub made : OnOk result (IfSome before.told (λ t. IsSomeAnd after.told (HasWritten t name [])))
  pub refused : OnErr result (IfSome before.told (λ t. IsSomeAnd after.told (LetsGo t name)))
  pub counts : CountsWrite before after result

-- the begun file has more bytes at its end
pub record Grows (before : FilesTold) (bytes : List ℕ) (after : FilesTold) : Type 0 where
  pub grown : IfSome before.begun (λ name. bytes_of after.files name ≡ Some (unwrap_or (bytes_of before.files name) [] ++ bytes))
  pub others : IfSome before.begun (λ name. KeepsOthers name before.files after.files)
  pub begun : after.begun ≡ before.begun
  pub failed : after.failed ≡ before.failed

-- one call of `append`
pub record Extends (before after : FilesSeen) (bytes : List ℕ) (result : Result ℕ file.FileFault) : Type 0 where
  pub within : IfOk result (λ n. n ≤ length bytes)
  pub some : IfOk result (λ n. 0 < length bytes → 0 < n)
  pub gained : IfOk result (λ n. IfSome before.told (λ t. IsSomeAnd after.told (Grows t (take n bytes))))
  pub refused : OnErr result (IfSome before.told (λ t. after.told ≡ Some t))
  pub begun : after.is_begun ≡ before.is_begun
  pub counts : CountsWrite before after result
