-- The least id in a component: each vertex begins with its own, and takes the least that reaches it.
use Rattle.std.specs.Prelude.{min, false}
use Rattle.gr_program.specs.Program.{Program}
use Rattle.gr_sum.specs.declared.amount.Amount.{Amount}
use Rattle.gr_sum.specs.Amount.{amount}
use Rattle.gr_sum.specs.Infinity.{infinity}
use Rattle.gr_sum.specs.Sums.{is_amount, differs}

abbrev pub labels : Program Amount Amount
labels = record {
  is_value = is_amount;
  is_acc = is_amount;
  start = λ v _ _. amount v;
  unit = amount infinity;
  along = λ x _ _. x;
  join = λ a b. amount (min a.0 b.0);
  apply = λ _ x a. amount (min x.0 a.0);
  wakes = differs;
  forgetful = false;
}
