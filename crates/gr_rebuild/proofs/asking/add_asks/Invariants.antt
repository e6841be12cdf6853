use Rattle.std.proofs.Common.{◌≡◌, ◌++◌, map, take}
use Rattle.gr_rebuild.proofs.asking.add_asks.Given as goal

abbrev pub invariant-loop-vertex : goal.invariant-loop-vertex
invariant-loop-vertex l = l.asked ≡ l.fn.asked ++ map (λ v. record { vertex = v; asker = l.asker }) (take l.vertex-index l.vertices)
