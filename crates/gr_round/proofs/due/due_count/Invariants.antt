use Rattle.std.proofs.Common.{◌≡◌, ◌≤◌, ◌-◌, length, take}
use Rattle.gr_rules.specs.AtPlace.{due_count}
use Rattle.gr_high.proofs.DueCopies.{due_copies}
use Rattle.gr_round.proofs.due.due_count.Given as goal

abbrev pub invariant-loop-copy : goal.invariant-loop-copy
invariant-loop-copy g l = record {
  within : l.i ≤ length (due_copies l.rows.pending);
  counted : l.count ≡ due_count l.place (take l.i (due_copies l.rows.pending));
  few : l.count ≤ l.i;
}

abbrev pub decreases-loop-copy : goal.decreases-loop-copy
decreases-loop-copy g l = length (due_copies l.rows.pending) - l.i
