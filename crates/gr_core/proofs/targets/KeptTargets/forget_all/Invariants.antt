use Rattle.std.proofs.Common.{◌≡◌, ◌<◌, ℕ, None, get_or, length}
use Rattle.gr_core.proofs.targets.KeptTargets.forget_all.Given as goal

abbrev pub invariant-loop-p : goal.invariant-loop-p
invariant-loop-p l = (length l.self-inside.slots.items ≡ 64) × ((q : ℕ) → q < l.p → get_or l.self-inside.slots.items q None ≡ None)
