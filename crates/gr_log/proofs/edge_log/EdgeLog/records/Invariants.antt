use Rattle.std.proofs.Common.{◌≡◌, ◌≤◌, ◌-◌, ◌++◌, drop, length}
use Rattle.gr_log.specs.Reading.{read}
use Rattle.gr_log.proofs.edge_log.EdgeLog.records.Given as goal

abbrev pub invariant-loop-record : goal.invariant-loop-record
invariant-loop-record l = record {
  inside : l.at ≤ length l.bytes;
  read : l.records ++ (read (drop l.at l.bytes)).0 ≡ l.self.committed;
}

abbrev pub decreases-loop-record : goal.decreases-loop-record
decreases-loop-record l = length l.bytes - l.at
