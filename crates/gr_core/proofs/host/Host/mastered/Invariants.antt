use Rattle.std.proofs.Common.{◌≡◌, ◌≤◌, ◌-◌, length, take}
use Rattle.gr_cluster.specs.Tables.{effective}
use Rattle.gr_core.specs.Values.{mastered_in}
use Rattle.gr_core.proofs.host.Host.mastered.Given as goal

abbrev pub invariant-loop-copy : goal.invariant-loop-copy
invariant-loop-copy g l =
    let rows = effective l.commits l.self in
    record {
      within : l.i ≤ length rows;
      values : l.values ≡ mastered_in l.p (take l.i rows);
    }

abbrev pub decreases-loop-copy : goal.decreases-loop-copy
decreases-loop-copy g l = length (effective l.commits l.self) - l.i
