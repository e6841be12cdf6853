-- The bytes of log records.
use Rattle.std.specs.Prelude.{ℕ, List, ◌∷◌, ◌++◌, flat_map, length}
use Rattle.std.specs.Int.{w32, w64, to_le_bytes}
use Rattle.gr_base.specs.Places.{word_of}
use Rattle.gr_log.specs.declared.record.LogRecord.{LogRecord}
use Rattle.gr_log.specs.declared.record.LogRecord.TheVariants as entry

-- a tag, and the numbers of the record, each with its low byte first; holders are one number, with a bit for each place
abbrev pub record_bytes : LogRecord → List ℕ
record_bytes (entry.Held v i o m hs) = 0x43 ∷ (to_le_bytes w32 v ++ to_le_bytes w32 i ++ to_le_bytes w32 o ++ m ∷ to_le_bytes w64 (word_of hs))
record_bytes (entry.Kept a) = 0x45 ∷ (to_le_bytes w32 a.number ++ to_le_bytes w32 a.edge.src ++ to_le_bytes w32 a.edge.dst ++ to_le_bytes w32 a.edge.weight)

abbrev pub records_bytes : List LogRecord → List ℕ
records_bytes rs = flat_map record_bytes rs

-- how many bytes records have
abbrev pub size_of : List LogRecord → ℕ
size_of rs = length (records_bytes rs)
