use Rattle.std.proofs.Common.{◌≡◌, ℕ, List, take}
use Rattle.gr_base.specs.declared.records.Edge.{Edge}
use Rattle.gr_edges.specs.Vertices.{ids}
use Rattle.gr_cut.specs.Cut.{cut_of}
use Rattle.gr_copies.specs.Ends.{AreEnds}
use Rattle.gr_copies.specs.Holders.{first_directory}
use Rattle.gr_copies.proofs.first.directory.Given as goal

abbrev pub invariant-loop-k : goal.invariant-loop-k
invariant-loop-k l = (theta : ℕ) (es : List Edge) → AreEnds l.places l.places es (cut_of l.places theta es) (ids l.vertices) l.sets → l.directory ≡ first_directory l.places theta l.losses es (take l.k (ids l.vertices))
