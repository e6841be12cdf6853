-- Who holds copies of a vertex at load, and who is to hold more.
use Rattle.std.specs.Prelude.{ℕ, ◌+◌, ◌-◌, Bool, ◌&&◌, ◌||◌, ◌==◌, min, List, map, length, take}
use Rattle.std.specs.List.{filter, list_any}
use Rattle.gr_base.specs.declared.records.Edge.{Edge}
use Rattle.gr_base.specs.declared.records.Directory.{Directory}
use Rattle.gr_base.specs.Rising.{has, without}
use Rattle.gr_base.specs.Places.{below, ring}
use Rattle.gr_cut.specs.Cut.{home, place_at_load}

-- the first candidates that hold nothing yet, as many as are missing
abbrev pub further : ℕ → List ℕ → List ℕ → List ℕ
further need holders candidates = take (need - length holders) (without candidates holders)

-- the further live places, in ring order after the master, that make as many holders as are needed, or as there are live places
abbrev pub extras : List ℕ → ℕ → ℕ → List ℕ → List ℕ
extras live need master holders = further (min need (length live)) holders (ring master live)

module _ (places theta losses : ℕ) (es : List Edge) where
  -- whether an edge of the vertex stands at the place
  abbrev pub has_edge_of : ℕ → ℕ → Bool
  has_edge_of v p = list_any (λ e. ((e.src == v) || (e.dst == v)) && (place_at_load places theta es e == p)) es

  -- the home of a vertex, and the places with an edge of it
  abbrev pub needed_holders : ℕ → List ℕ
  needed_holders v = filter (λ p. (home places v == p) || has_edge_of v p) (below places)

  -- the next places in ring order after its home, until the copies bear the losses
  abbrev pub more_holders : ℕ → List ℕ
  more_holders v = further (min (losses + 1) places) (needed_holders v) (ring (home places v) (below places))

  -- the holders of a vertex at load
  unfoldable pub first_holders : ℕ → List ℕ
  first_holders v = let needed = needed_holders v in let more = more_holders v in filter (λ p. has needed p || has more p) (below places)

  -- where the copies of some vertices stand at load
  abbrev pub first_directory : List ℕ → List Directory
  first_directory vs = map (λ v. record { vertex = v; master = home places v; holders = first_holders v }) vs
