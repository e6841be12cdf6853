use Rattle.std.proofs.Common.{◌≡◌, ◌≤◌, ◌-◌, length, take}
use Rattle.gr_rules.specs.Round.{vertices_where}
use Rattle.gr_repair.specs.Short.{is_short}
use Rattle.gr_repair.proofs.missing.short.Given as goal

abbrev pub invariant-loop-copy : goal.invariant-loop-copy
invariant-loop-copy g l = record {
  within : l.i ≤ length l.rows.stable;
  vertices : l.vertices ≡ vertices_where (is_short l.me l.losses l.live) (take l.i l.rows.stable);
}

abbrev pub decreases-loop-copy : goal.decreases-loop-copy
decreases-loop-copy g l = length l.rows.stable - l.i
