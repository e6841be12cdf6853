use Rattle.std.proofs.Common.{◌≡◌, ℕ, ◌<◌, true}
use Rattle.gr_base.specs.Rising.{has}
use Rattle.gr_migrate.proofs.gone.all_in.Given as goal

abbrev pub invariant-loop-p : goal.invariant-loop-p
invariant-loop-p l = (q : ℕ) → q < l.p → has l.part q ≡ true → has l.places q ≡ true
