-- The programs of the worked cases, over plain numbers.
use Rattle.std.proofs.Common.{ℕ, ◌+◌, ◌*◌, ◌/◌, min, true, false}
use Rattle.std.specs.Prelude.{◌==◌, not, nat_le, if◌then◌else◌}
use Rattle.gr_program.specs.Program.{Program}

-- the distance of a vertex that is not reached
abbrev pub infinite : ℕ
infinite = 18446744073709551615

-- the least sum of weights on a path from the source
abbrev pub shortest : Program ℕ ℕ
shortest = record {
  is_value = λ x. nat_le x infinite;
  is_acc = λ a. nat_le a infinite;
  start = λ v _ _. if v == 0 then 0 else infinite;
  unit = infinite;
  along = λ x w _. min (x + w) infinite;
  join = λ a b. min a b;
  apply = λ _ x a. min x a;
  wakes = λ x y. not (x == y);
  forgetful = false;
}

-- the number of edges into a vertex
abbrev pub in_degree : Program ℕ ℕ
in_degree = record {
  is_value = λ x. nat_le x infinite;
  is_acc = λ a. nat_le a infinite;
  start = λ _ _ _. 0;
  unit = 0;
  along = λ _ _ _. 1;
  join = λ a b. min (a + b) infinite;
  apply = λ _ _ a. a;
  wakes = λ _ _. false;
  forgetful = true;
}

-- a rank in millionths, of which each vertex gives equal shares along its edges
abbrev pub rank : Program ℕ ℕ
rank = record {
  is_value = λ x. nat_le x infinite;
  is_acc = λ a. nat_le a infinite;
  start = λ _ _ _. 1000000;
  unit = 0;
  along = λ x _ d. x / d;
  join = λ a b. min (a + b) infinite;
  apply = λ _ _ a. min (150000 + 850000 * a / 1000000) infinite;
  wakes = λ x y. not (x == y);
  forgetful = true;
}
