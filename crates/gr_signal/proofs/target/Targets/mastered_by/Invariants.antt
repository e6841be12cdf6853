use Rattle.std.proofs.Common.{◌≡◌, take}
use Rattle.gr_signal.specs.Signals.{signals_to}
use Rattle.gr_signal.proofs.target.Targets.mastered_by.Given as goal

abbrev pub invariant-loop-target : goal.invariant-loop-target
invariant-loop-target l = l.body ≡ signals_to (take l.target-index l.target-items) l.to
