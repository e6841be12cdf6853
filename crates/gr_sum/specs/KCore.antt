-- The k-core by peeling: a vertex stays in while at least k edges come from vertices that are in.
use Rattle.std.specs.Prelude.{ℕ, false, ◌&&◌, nat_eq, nat_le, if◌then◌else◌}
use Rattle.gr_program.specs.Program.{Program}
use Rattle.gr_sum.specs.declared.amount.Amount.{Amount}
use Rattle.gr_sum.specs.Amount.{amount}
use Rattle.gr_sum.specs.Sums.{is_amount, added, differs}

abbrev pub k_core : ℕ → Program Amount Amount
k_core k = record {
  is_value = is_amount;
  is_acc = is_amount;
  start = λ _ _ _. amount 1;
  unit = amount 0;
  along = λ x _ _. x;
  join = added;
  apply = λ _ x a. amount (if nat_eq x.0 1 && nat_le k a.0 then 1 else 0);
  wakes = differs;
  forgetful = false;
}
