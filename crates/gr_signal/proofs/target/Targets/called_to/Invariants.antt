use Rattle.std.proofs.Common.{◌≡◌, take}
use Rattle.gr_signal.specs.Signals.{calls_to}
use Rattle.gr_signal.proofs.target.Targets.called_to.Given as goal

abbrev pub invariant-loop-target : goal.invariant-loop-target
invariant-loop-target l = l.body ≡ calls_to (take l.target-index l.target-items) l.place l.to
