use Rattle.std.proofs.Common.{◌≡◌, ◌≤◌, ◌-◌, [], ◌++◌, map, take, length}
use Rattle.gr_log.specs.declared.record.LogRecord.TheVariants as item
use Rattle.gr_rules.specs.Rows.{record_of}
use Rattle.gr_core.proofs.load.first_log.Given as goal

abbrev pub invariant-loop-copy : goal.invariant-loop-copy
invariant-loop-copy g l = record {
  within : l.i ≤ length l.rows.stable;
  log : l.log ≡ record { committed = []; appended = map record_of (take l.i l.rows.stable); torn = [] };
}

abbrev pub decreases-loop-copy : goal.decreases-loop-copy
decreases-loop-copy g l = length l.rows.stable - l.i

abbrev pub invariant-loop-edge : goal.invariant-loop-edge
invariant-loop-edge g l = l.log ≡ record { committed = []; appended = map record_of l.rows.stable ++ map item.Kept (take l.edge-index l.edges); torn = [] }
