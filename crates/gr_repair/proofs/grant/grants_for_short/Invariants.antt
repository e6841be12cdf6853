use Rattle.std.proofs.Common.{◌≡◌, ◌≤◌, ◌-◌, length, take}
use Rattle.std.specs.List.{filter_map}
use Rattle.gr_repair.proofs.Repair.{line}
use Rattle.gr_repair.proofs.grant.grants_for_short.Given as goal

abbrev pub invariant-loop-copy : goal.invariant-loop-copy
invariant-loop-copy g l = record {
  within : l.i ≤ length l.rows.stable;
  body : l.body ≡ filter_map (line l.view l.me l.to) (take l.i l.rows.stable);
}

abbrev pub decreases-loop-copy : goal.decreases-loop-copy
decreases-loop-copy g l = length l.rows.stable - l.i
