use Rattle.std.proofs.Common.{◌≡◌, map, take}
use Rattle.gr_log.specs.Log.{with_records}
use Rattle.gr_rules.specs.Rows.{record_of}
use Rattle.gr_rebuild.proofs.recording.append_copies.Given as goal

abbrev pub invariant-loop-copy : goal.invariant-loop-copy
invariant-loop-copy g l = l.log ≡ with_records (map record_of (take l.copy-index l.granted)) l.initial.log
