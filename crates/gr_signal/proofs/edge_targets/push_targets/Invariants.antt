use Rattle.std.proofs.Common.{◌≡◌, ◌++◌, map, take}
use Rattle.gr_signal.proofs.edge_targets.push_targets.Given as goal

abbrev pub invariant-loop-edge : goal.invariant-loop-edge
invariant-loop-edge l = l.ends.items ≡ l.initial.ends.items ++ map (λ e. e.edge.dst) (take l.edge-index l.edges)
