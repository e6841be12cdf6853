-- Files and sinks in memory, whose calls of listed numbers fail.
use Rattle.std.specs.Prelude.{ℕ, List, [], ◌∷◌, Bool, if◌then◌else◌, Option, Some, is_some}
use Rattle.std.specs.Str.{bytes_eq}
use Rattle.gr_outside.specs.Sink.{SinkSeen}
use Rattle.gr_outside.specs.Files.{Named, FilesSeen}

-- a sink: the bytes that it took, the numbers of the calls that fail, the calls so far, and those that failed
pub record SinkState : Type 0 where
  pub bytes : List ℕ
  pub fail : List ℕ
  pub calls : ℕ
  pub faults : ℕ

-- it tells its bytes
abbrev pub sink_seen : SinkState → SinkSeen
sink_seen s = record { taken = Some s.bytes; faults = s.faults }

-- files: what they tell, the numbers of the calls that fail, the calls so far, and the counts of faults
pub record FilesState : Type 0 where
  pub files : List Named
  pub failed : Option (List ℕ)
  pub begun : Option (List ℕ)
  pub fail : List ℕ
  pub calls : ℕ
  pub load_faults : ℕ
  pub long_loads : ℕ
  pub write_faults : ℕ

-- they tell their content
abbrev pub files_seen : FilesState → FilesSeen
files_seen s = record {
  told = Some (record { files = s.files; failed = s.failed; begun = s.begun });
  is_begun = is_some s.begun;
  load_faults = s.load_faults;
  long_loads = s.long_loads;
  write_faults = s.write_faults;
}

-- whether a file has a name
abbrev pub is_named : List ℕ → Named → Bool
is_named name f = bytes_eq f.0 name

-- the files with other bytes in the place of a named one, or with one more at the end
abbrev pub with_file : List Named → List ℕ → List ℕ → List Named
with_file [] name bytes = (name, bytes) ∷ []
with_file (f ∷ fs) name bytes = if is_named name f then (name, bytes) ∷ fs else f ∷ with_file fs name bytes
