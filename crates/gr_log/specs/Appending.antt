-- The bytes of a log, and what one more record makes of it.
use Rattle.std.specs.Prelude.{ℕ, ◌≡◌, List, [], ◌∷◌, ◌++◌}
use Rattle.gr_log.specs.declared.record.LogRecord.{LogRecord}
use Rattle.gr_log.specs.Bytes.{record_bytes, records_bytes, size_of}
use Rattle.gr_log.specs.Log.{Log, tail_bytes, with_records}

-- all bytes of a log
abbrev pub log_bytes : Log → List ℕ
log_bytes l = records_bytes l.committed ++ tail_bytes l

-- the number of committed bytes
abbrev pub committed_size : Log → ℕ
committed_size l = size_of l.committed

-- the log with one more record at its end: the committed records stay, and its bytes follow those of the tail;
-- where nothing was torn, it is one more whole record
pub record IsAppended (r : LogRecord) (before after : Log) : Type 0 where
  pub committed : after.committed ≡ before.committed
  pub bytes : tail_bytes after ≡ tail_bytes before ++ record_bytes r
  pub whole : before.torn ≡ [] → after ≡ with_records (r ∷ []) before
