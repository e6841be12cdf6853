use Rattle.std.proofs.Common.{◌≡◌, map, take, [], ◌∷◌}
use Rattle.gr_cut.specs.Cut.{home}
use Rattle.gr_copies.proofs.first.homes.Given as goal

abbrev pub invariant-loop-vertex : goal.invariant-loop-vertex
invariant-loop-vertex l = l.sets.items ≡ map (λ v. home l.places v.id ∷ []) (take l.vertex-index l.vertices)
