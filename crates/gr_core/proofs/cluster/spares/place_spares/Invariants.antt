use Rattle.std.proofs.Common.{◌≡◌, ◌≤◌, ℕ, None, length, get_or}
use Rattle.gr_core.proofs.Changed.{ChangedBelow}
use Rattle.gr_core.proofs.cluster.spares.place_spares.Given as goal

abbrev pub invariant-loop-p : goal.invariant-loop-p
invariant-loop-p g l = record {
  hosts : ChangedBelow l.places (λ p _. get_or l.fn.spares.items p None) l.fn.hosts.items None l.p l.hosts.items;
  as_many : length l.spares.items ≡ length l.fn.spares.items;
  rest : (q : ℕ) → l.p ≤ q → get_or l.spares.items q None ≡ get_or l.fn.spares.items q None;
}
