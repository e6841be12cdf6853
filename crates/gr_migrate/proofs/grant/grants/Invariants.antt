use Rattle.std.proofs.Common.{◌≡◌, ◌≤◌, ◌-◌, length, take}
use Rattle.std.specs.List.{filter_map}
use Rattle.gr_migrate.specs.Askers.{askers}
use Rattle.gr_migrate.specs.Granted.{grant_line}
use Rattle.gr_migrate.proofs.grant.grants.Given as goal

abbrev pub invariant-loop-copy : goal.invariant-loop-copy
invariant-loop-copy g l = record {
  within : l.i ≤ length l.rows.stable;
  granted : l.granted ≡ filter_map (λ c. grant_line l.view l.me (askers l.fn.asked c.vertex) l.to c) (take l.i l.rows.stable);
}

abbrev pub decreases-loop-copy : goal.decreases-loop-copy
decreases-loop-copy g l = length l.rows.stable - l.i
