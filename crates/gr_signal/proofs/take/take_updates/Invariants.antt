use Rattle.std.proofs.Common.{◌≡◌, take}
use Rattle.gr_rules.specs.Rows.{with_values}
use Rattle.gr_signal.proofs.take.take_updates.Given as goal

abbrev pub invariant-loop-line : goal.invariant-loop-line
invariant-loop-line g l = l.rows ≡ record (l.initial.rows) { pending = with_values (take l.line-index l.body) l.initial.rows.pending }
