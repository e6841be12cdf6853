use Rattle.std.proofs.Common.{◌≡◌, ℕ, ◌<◌, true, false}
use Rattle.gr_base.specs.Rising.{has}
use Rattle.gr_migrate.proofs.grant.meets.Given as goal

abbrev pub invariant-loop-p : goal.invariant-loop-p
invariant-loop-p l = (q : ℕ) → q < l.p → has l.right q ≡ true → has l.left q ≡ false
