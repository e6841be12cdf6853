-- The graphs of the worked cases, as lists of edges.
use Rattle.std.proofs.Common.{ℕ, List, [], ◌∷◌}
use Rattle.gr_base.specs.declared.records.Edge.{Edge}

-- an edge of weight 1
abbrev pub edge : ℕ → ℕ → Edge
edge s d = record { src = s; dst = d; weight = 1 }

-- two edges along a path and one that skips its middle
abbrev pub triangle : List Edge
triangle = edge 0 1 ∷ edge 1 2 ∷ edge 0 2 ∷ []

-- six edges into one vertex
abbrev pub star : List Edge
star = edge 1 0 ∷ edge 2 0 ∷ edge 3 0 ∷ edge 4 0 ∷ edge 5 0 ∷ edge 6 0 ∷ []

-- one edge, and a path of four: values that a forgetful program owes after a loss
abbrev pub path : List Edge
path = edge 0 1 ∷ edge 2 3 ∷ edge 3 4 ∷ edge 4 5 ∷ edge 5 6 ∷ []
