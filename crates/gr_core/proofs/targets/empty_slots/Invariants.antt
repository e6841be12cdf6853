use Rattle.std.proofs.Common.{◌≡◌, None, replicate}
use Rattle.gr_core.proofs.targets.empty_slots.Given as goal

abbrev pub invariant-loop-p : goal.invariant-loop-p
invariant-loop-p l = l.slots.items ≡ replicate l.p None
