-- Logs of a few records, by computation.
use Rattle.std.proofs.Common.{◌≡◌, ℕ, List, [], ◌∷◌, refl}
use Rattle.std.specs.Prelude.{None}
use Rattle.gr_base.specs.declared.records.NumberedEdge.{NumberedEdge}
use Rattle.gr_log.specs.declared.record.LogRecord.{LogRecord}
use Rattle.gr_log.specs.declared.record.LogRecord.TheVariants as entry
use Rattle.gr_log.specs.Bytes.{record_bytes, size_of}
use Rattle.gr_log.specs.Log.{Log, torn_log, cut_log, committed_log, tail_size}
use Rattle.gr_log.specs.Directory.{directory_in, entry_in, edges_in}

abbrev kept : ℕ → ℕ → ℕ → LogRecord
kept n s d = entry.Kept (record { number = n; edge = record { src = s; dst = d; weight = 1 } })

abbrev held : ℕ → ℕ → List ℕ → LogRecord
held v m hs = entry.Held v 0 0 m hs

held_bytes : record_bytes (held 5 1 (0 ∷ 1 ∷ [])) ≡ 0x43 ∷ 5 ∷ 0 ∷ 0 ∷ 0 ∷ 0 ∷ 0 ∷ 0 ∷ 0 ∷ 0 ∷ 0 ∷ 0 ∷ 0 ∷ 1 ∷ 3 ∷ 0 ∷ 0 ∷ 0 ∷ 0 ∷ 0 ∷ 0 ∷ 0 ∷ []
held_bytes = refl

kept_bytes : record_bytes (kept 0 0 1) ≡ 0x45 ∷ 0 ∷ 0 ∷ 0 ∷ 0 ∷ 0 ∷ 0 ∷ 0 ∷ 0 ∷ 1 ∷ 0 ∷ 0 ∷ 0 ∷ 1 ∷ 0 ∷ 0 ∷ 0 ∷ []
kept_bytes = refl

-- two copies and an edge take 22, 22 and 17 bytes
sizes : size_of (held 5 1 (0 ∷ 1 ∷ []) ∷ held 6 0 (0 ∷ 63 ∷ []) ∷ kept 0 5 6 ∷ []) ≡ 61
sizes = refl

abbrev two_appended : Log
two_appended = record { committed = held 1 0 (0 ∷ []) ∷ []; appended = kept 0 0 1 ∷ kept 3 0 1 ∷ []; torn = [] }

-- a crash keeps the whole records, and the first bytes of the next
torn_in_the_second : torn_log 20 two_appended ≡ record { committed = held 1 0 (0 ∷ []) ∷ []; appended = kept 0 0 1 ∷ []; torn = 0x45 ∷ 3 ∷ 0 ∷ [] }
torn_in_the_second = refl

kept_of_the_tail : tail_size (torn_log 20 two_appended) ≡ 20
kept_of_the_tail = refl

-- or the whole tail where it is shorter
shorter_tail : torn_log 100 two_appended ≡ two_appended
shorter_tail = refl

-- a second crash tears what the first left
torn_twice : torn_log 18 (torn_log 20 two_appended) ≡ record { committed = held 1 0 (0 ∷ []) ∷ []; appended = kept 0 0 1 ∷ []; torn = 0x45 ∷ [] }
torn_twice = refl

-- a torn record does not count: no bytes of it are read, and none is committed
torn_does_not_count : edges_in (committed_log (torn_log 20 two_appended)).committed ≡ record { number = 0; edge = record { src = 0; dst = 1; weight = 1 } } ∷ []
unfolding edges_in
torn_does_not_count = refl

cut_keeps_the_committed : cut_log (torn_log 20 two_appended) ≡ record { committed = held 1 0 (0 ∷ []) ∷ []; appended = []; torn = [] }
cut_keeps_the_committed = refl

abbrev history : List LogRecord
history = held 2 0 (0 ∷ 1 ∷ []) ∷ held 1 0 (0 ∷ []) ∷ kept 4 1 2 ∷ kept 3 2 1 ∷ held 2 1 (1 ∷ []) ∷ []

-- the last record of a vertex stands for it, and vertices rise
last_stands : directory_in history ≡ record { vertex = 1; indeg = 0; outdeg = 0; master = 0; holders = 0 ∷ [] } ∷ record { vertex = 2; indeg = 0; outdeg = 0; master = 1; holders = 1 ∷ [] } ∷ []
unfolding directory_in
last_stands = refl

none_of_three : entry_in history 3 ≡ None
unfolding directory_in
none_of_three = refl

abbrev third : NumberedEdge
third = record { number = 3; edge = record { src = 2; dst = 1; weight = 1 } }

abbrev fourth : NumberedEdge
fourth = record { number = 4; edge = record { src = 1; dst = 2; weight = 1 } }

by_number : edges_in history ≡ third ∷ fourth ∷ []
unfolding edges_in
by_number = refl
