-- The in-degree: each edge brings 1.
use Rattle.std.specs.Prelude.{true, false}
use Rattle.gr_program.specs.Program.{Program}
use Rattle.gr_sum.specs.declared.amount.Amount.{Amount}
use Rattle.gr_sum.specs.Amount.{amount}
use Rattle.gr_sum.specs.Sums.{is_amount, added}

abbrev pub in_degree : Program Amount Amount
in_degree = record {
  is_value = is_amount;
  is_acc = is_amount;
  start = λ _ _ _. amount 0;
  unit = amount 0;
  along = λ _ _ _. amount 1;
  join = added;
  apply = λ _ _ a. a;
  wakes = λ _ _. false;
  forgetful = true;
}
