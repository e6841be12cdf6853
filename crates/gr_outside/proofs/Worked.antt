-- Worked cases of the definitions.
use Rattle.std.proofs.Common.{◌≡◌, ◌^◌, ◌-◌, List, [], ◌∷◌, Some, None, Err, refl}
use Rattle.gr_outside.specs.declared.faults.LoadFault.TheVariants.{Failed, TooLong}
use Rattle.gr_outside.specs.Causes.{one_more}
use Rattle.gr_outside.specs.Files.{Named, FilesTold, bytes_of}
use Rattle.gr_outside.specs.FileCalls.{after_load}
use Rattle.gr_outside.specs.Memory.{with_file}

-- a file `a` of the byte 1, and a file `b` of the byte 2
abbrev two_files : List Named
two_files = (97 ∷ [], 1 ∷ []) ∷ (98 ∷ [], 2 ∷ []) ∷ []

abbrev told : FilesTold
told = record { files = two_files; failed = None; begun = None }

second_file : bytes_of two_files (98 ∷ []) ≡ Some (2 ∷ [])
second_file = refl

absent_file : bytes_of two_files (99 ∷ []) ≡ None
absent_file = refl

replaced_file : with_file two_files (97 ∷ []) (7 ∷ []) ≡ (97 ∷ [], 7 ∷ []) ∷ (98 ∷ [], 2 ∷ []) ∷ []
replaced_file = refl

added_file : with_file two_files (99 ∷ []) [] ≡ (97 ∷ [], 1 ∷ []) ∷ (98 ∷ [], 2 ∷ []) ∷ (99 ∷ [], []) ∷ []
added_file = refl

named_failure : (after_load {T = Unit {0}} told (99 ∷ []) (Err Failed)).failed ≡ Some (99 ∷ [])
named_failure = refl

unnamed_failure : after_load {T = Unit {0}} told (98 ∷ []) (Err TooLong) ≡ told
unnamed_failure = refl

last_count : one_more (2 ^ 64 - 1) ≡ 2 ^ 64 - 1
last_count = refl
