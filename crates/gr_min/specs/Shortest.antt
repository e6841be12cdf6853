-- The least sum of weights on a path from the source.
use Rattle.std.specs.Prelude.{ℕ, ◌+◌, ◌==◌, min, not, false, if◌then◌else◌}
use Rattle.gr_program.specs.Program.{Program}
use Rattle.gr_sum.specs.Infinity.{infinity, is_number, capped}
use Rattle.gr_min.specs.declared.distance.Distance.{Distance}
use Rattle.gr_min.specs.Distance.{distance}

abbrev pub shortest : ℕ → Program Distance Distance
shortest source = record {
  is_value = λ x. is_number x.0;
  is_acc = λ a. is_number a.0;
  start = λ v _ _. distance (if v == source then 0 else infinity);
  unit = distance infinity;
  along = λ x w _. distance (capped (x.0 + w));
  join = λ a b. distance (min a.0 b.0);
  apply = λ _ x a. distance (min x.0 a.0);
  wakes = λ x y. not (x.0 == y.0);
  forgetful = false;
}
