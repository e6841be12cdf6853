-- What contracts see of `Arcs`.
use Rattle.std.specs.Prelude.{ℕ, List}
use Rattle.gr_base.specs.Rising.{RisesBy}
use Rattle.gr_base.specs.declared.records.NumberedEdge.{NumberedEdge}

-- the edges of a place as they count now, and as they count from the next install on
pub record EdgeLayers : Type 0 where
  pub stable : List NumberedEdge
  pub pending : List NumberedEdge

-- the number of an edge
abbrev pub number_of : NumberedEdge → ℕ
number_of e = e.number

-- in each layer the numbers rise
pub record EdgesRise (layers : EdgeLayers) : Type 0 where
  pub stable_rises : RisesBy number_of layers.stable
  pub pending_rises : RisesBy number_of layers.pending
