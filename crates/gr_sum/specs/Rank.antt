-- Rank in millionths: a vertex passes its rank on in equal shares, and keeps 0.15 and 0.85 times what it gets.
use Rattle.std.specs.Prelude.{◌+◌, ◌*◌, ◌/◌, true}
use Rattle.gr_program.specs.Program.{Program}
use Rattle.gr_sum.specs.declared.amount.Amount.{Amount}
use Rattle.gr_sum.specs.Amount.{amount}
use Rattle.gr_sum.specs.Infinity.{capped}
use Rattle.gr_sum.specs.Sums.{is_amount, added, differs}

abbrev pub rank : Program Amount Amount
rank = record {
  is_value = is_amount;
  is_acc = is_amount;
  start = λ _ _ _. amount 1000000;
  unit = amount 0;
  along = λ x _ d. amount (x.0 / d);
  join = added;
  apply = λ _ _ a. amount (capped (150000 + 850000 * a.0 / 1000000));
  wakes = differs;
  forgetful = true;
}
