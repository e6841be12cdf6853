-- Files and sinks of the system, which tell nothing of their content.
use Rattle.std.specs.Prelude.{ℕ, Bool, None}
use Rattle.gr_outside.specs.Files.{FilesSeen}
use Rattle.gr_outside.specs.Sink.{SinkSeen}

-- whether a file is begun, and the counts of faults
pub record FileCounts : Type 0 where
  pub is_begun : Bool
  pub load_faults : ℕ
  pub long_loads : ℕ
  pub write_faults : ℕ

-- what the files of the system let see
abbrev pub untold_files : FileCounts → FilesSeen
untold_files c = record {
  told = None;
  is_begun = c.is_begun;
  load_faults = c.load_faults;
  long_loads = c.long_loads;
  write_faults = c.write_faults;
}

-- what a writer of the system lets see, by its count of faults
abbrev pub untold_sink : ℕ → SinkSeen
untold_sink faults = record { taken = None; faults = faults }
