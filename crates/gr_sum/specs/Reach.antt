-- Reachability from up to 64 seeds at once: bit i says that seed i reaches the vertex.
use Rattle.std.specs.Prelude.{ℕ, false, List, bit_or}
use Rattle.gr_program.specs.Program.{Program}
use Rattle.gr_sum.specs.declared.amount.Amount.{Amount}
use Rattle.gr_sum.specs.Amount.{amount}
use Rattle.gr_sum.specs.Sums.{is_amount, differs}
use Rattle.gr_sum.specs.Seeds.{seed_bits}

abbrev pub either : Amount → Amount → Amount
either a b = amount (bit_or a.0 b.0)

abbrev pub reach : List ℕ → Program Amount Amount
reach seeds = record {
  is_value = is_amount;
  is_acc = is_amount;
  start = λ v _ _. amount (seed_bits seeds v);
  unit = amount 0;
  along = λ x _ _. x;
  join = either;
  apply = λ _ x a. either x a;
  wakes = differs;
  forgetful = false;
}
