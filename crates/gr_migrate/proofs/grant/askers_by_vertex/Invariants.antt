use Rattle.std.proofs.Common.{◌≡◌, ℕ, [], take}
use Rattle.std.specs.Prelude.{unwrap_or}
use Rattle.std.specs.BTreeMap as table
use Rattle.std.specs.Ordering.{nat_cmp}
use Rattle.gr_migrate.specs.Askers.{askers}
use Rattle.gr_migrate.proofs.grant.askers_by_vertex.Given as goal

abbrev pub invariant-loop-ask : goal.invariant-loop-ask
invariant-loop-ask l = (v : ℕ) → unwrap_or (table.get nat_cmp l.sets v) [] ≡ askers (take l.ask-index l.asked) v
