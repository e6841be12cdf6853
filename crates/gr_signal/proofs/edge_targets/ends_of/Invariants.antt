use Rattle.std.proofs.Common.{◌≡◌, ℕ, take}
use Rattle.gr_base.specs.Rising.{has}
use Rattle.gr_signal.specs.Signals.{is_target}
use Rattle.gr_signal.proofs.edge_targets.ends_of.Given as goal

abbrev pub invariant-loop-v : goal.invariant-loop-v
invariant-loop-v l = (t : ℕ) → has l.ends.items t ≡ is_target (take l.v-index l.woken) l.arcs.stable t
