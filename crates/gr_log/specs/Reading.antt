-- What the bytes of a log are read as.
use Rattle.std.specs.Prelude.{ℕ, zero, suc, ◌-◌, ◌≡◌, ◌<◌, ◌≤◌, ◌==◌, nat_le, if◌then◌else◌, List, [], ◌∷◌, Option, Some, None, length, take, drop, slice_index}
use Rattle.std.specs.List.{All}
use Rattle.std.specs.Int.{w32, w64, from_le_bytes}
use Rattle.gr_base.specs.PlaceBits.{members_from, is_bit}
use Rattle.gr_log.specs.declared.record.LogRecord.{LogRecord}
use Rattle.gr_log.specs.declared.record.LogRecord.TheVariants as entry
use Rattle.gr_log.specs.Bytes.{record_bytes}
use Rattle.gr_log.specs.Log.{Log}

-- the record that bytes after a tag say
abbrev pub held_in : List ℕ → LogRecord
held_in bs = entry.Held (from_le_bytes w32 bs) (from_le_bytes w32 (drop 4 bs)) (from_le_bytes w32 (drop 8 bs)) (slice_index bs 12) (members_from (is_bit (from_le_bytes w64 (drop 13 bs))) 0 64)

abbrev pub kept_in : List ℕ → LogRecord
kept_in bs = entry.Kept (record { number = from_le_bytes w32 bs; edge = record { src = from_le_bytes w32 (drop 4 bs); dst = from_le_bytes w32 (drop 8 bs); weight = from_le_bytes w32 (drop 12 bs) } })

-- what n bytes say, where so many stand there
abbrev pub said_by : ℕ → (List ℕ → LogRecord) → List ℕ → Option LogRecord
said_by n read bs = if nat_le n (length bs) then Some (read (take n bs)) else None

-- the record that stands whole at the start
unfoldable pub first_record : List ℕ → Option LogRecord
first_record [] = None
first_record (tag ∷ bs) = if tag == 0x43 then said_by 21 held_in bs else (if tag == 0x45 then said_by 16 kept_in bs else None)

-- what follows a record that was read, or else nothing is read here
abbrev pub read_on : Option LogRecord → List ℕ → (ℕ → List LogRecord × List ℕ) → List LogRecord × List ℕ
read_on None here later = ([], here)
read_on (Some r) here later = (r ∷ (later (length (record_bytes r) - 1)).0, (later (length (record_bytes r) - 1)).1)

-- the whole records past the first k bytes, one after another, and the bytes after the last
unfoldable pub read_past : ℕ → List ℕ → List LogRecord × List ℕ
read_past k [] = ([], [])
read_past (suc k) (b ∷ bs) = read_past k bs
read_past zero (b ∷ bs) = read_on (first_record (b ∷ bs)) (b ∷ bs) (λ k. read_past k bs)

abbrev pub read : List ℕ → List LogRecord × List ℕ
read bs = read_past 0 bs

-- the log that bytes are, the first n of them committed
abbrev pub log_in : List ℕ → ℕ → Log
log_in bs n = record { committed = (read (take n bs)).0; appended = (read (drop n bs)).0; torn = (read (drop n bs)).1 }

-- committed bytes are whole records
pub record IsLog (bs : List ℕ) (n : ℕ) : Type 0 where
  pub inside : n ≤ length bs
  pub whole : (read (take n bs)).1 ≡ []
  pub bytes : All (λ b. b < 256) bs
