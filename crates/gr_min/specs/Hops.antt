-- The fewest edges from the source, and the least vertex before the last of them.
use Rattle.std.specs.Prelude.{ℕ, ◌+◌, ◌-◌, ◌^◌, ◌==◌, ◌&&◌, not, nat_lt, Bool, false, if◌then◌else◌}
use Rattle.gr_program.specs.Program.{Program}
use Rattle.gr_sum.specs.Infinity.{infinity, is_number}
use Rattle.gr_min.specs.declared.hop.Hop.{Hop}
use Rattle.gr_min.specs.declared.hop.HopSum.{HopSum}
use Rattle.gr_min.specs.HopSum.{nowhere, offer, better, reached_by, hop}

abbrev pub is_offer : HopSum → Bool
is_offer a = is_number a.distance && is_number a.parent

-- a hop of a vertex: its id has 32 bits
abbrev pub is_hop : Hop → Bool
is_hop x = nat_lt x.at (2 ^ 32) && is_offer (reached_by x)

-- a vertex offers itself to its targets, one edge further, where that is finite
abbrev pub passed_on : Hop → HopSum
passed_on x = if nat_lt x.distance (infinity - 1) then offer (x.distance + 1) x.at else nowhere

abbrev pub hops : ℕ → Program Hop HopSum
hops source = record {
  is_value = is_hop;
  is_acc = is_offer;
  start = λ v _ _. hop v (if v == source then offer 0 v else nowhere);
  unit = nowhere;
  along = λ x _ _. passed_on x;
  join = better;
  apply = λ _ x a. hop x.at (better (reached_by x) a);
  wakes = λ x y. not (x.distance == y.distance);
  forgetful = false;
}
