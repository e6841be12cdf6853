-- A log, and what appending, committing, cutting and a crash make of it.
use Rattle.std.specs.Prelude.{ℕ, ◌-◌, nat_le, List, [], ◌∷◌, ◌++◌, length, take, drop, if◌then◌else◌}
use Rattle.gr_log.specs.declared.record.LogRecord.{LogRecord}
use Rattle.gr_log.specs.Bytes.{record_bytes, records_bytes, size_of}

-- its committed records, the whole records appended since, and after them the bytes of a record that was torn
pub record Log : Type 0 where
  pub committed : List LogRecord
  pub appended : List LogRecord
  pub torn : List ℕ

abbrev pub empty_log : Log
empty_log = record { committed = []; appended = []; torn = [] }

-- the log at load: all is committed
abbrev pub log_of : List LogRecord → Log
log_of rs = record { committed = rs; appended = []; torn = [] }

-- the bytes past the committed ones
abbrev pub tail_bytes : Log → List ℕ
tail_bytes l = records_bytes l.appended ++ l.torn

-- the number of bytes past them
abbrev pub tail_size : Log → ℕ
tail_size l = length (tail_bytes l)

-- the log with further records
abbrev pub with_records : List LogRecord → Log → Log
with_records rs l = record l { appended = l.appended ++ rs }

-- the log once all whole records are committed
abbrev pub committed_log : Log → Log
committed_log l = record { committed = l.committed ++ l.appended; appended = []; torn = [] }

-- the log without what was not committed
abbrev pub cut_log : Log → Log
cut_log l = record l { appended = []; torn = [] }

-- the records that stand whole in the first n bytes
abbrev pub whole_in : ℕ → List LogRecord → List LogRecord
whole_in n [] = []
whole_in n (r ∷ rs) = if nat_le (length (record_bytes r)) n then r ∷ whole_in (n - length (record_bytes r)) rs else []

-- the log after a crash that keeps the first n bytes of its tail: the whole records among them, and the bytes of the next
abbrev pub torn_log : ℕ → Log → Log
torn_log n l =
    let whole = whole_in n l.appended in record l { appended = whole; torn = drop (size_of whole) (take n (tail_bytes l)) }
