use Rattle.std.proofs.Common.{◌≡◌, map, take}
use Rattle.gr_log.specs.declared.record.LogRecord.TheVariants as item
use Rattle.gr_log.specs.Log.{with_records}
use Rattle.gr_rebuild.proofs.recording.append_edges.Given as goal

abbrev pub invariant-loop-edge : goal.invariant-loop-edge
invariant-loop-edge l = l.log ≡ with_records (map item.Kept (take l.edge-index l.taken)) l.initial.log
