-- The edges of a graph by the positions of their ends among the vertices.
use Rattle.std.specs.Prelude.{◌≡◌, ℕ, ◌+◌, ◌<◌, ◌==◌, List, map, length, slice_index}
use Rattle.std.specs.List.{All, filter}
use Rattle.gr_base.specs.declared.records.Edge.{Edge}
use Rattle.gr_base.specs.Degrees.{outdegree}
use Rattle.gr_uncut.specs.declared.index.Arc.{Arc}
use Rattle.gr_uncut.specs.declared.index.Index.{Index}
use Rattle.gr_uncut.specs.Rows.{row}

-- an edge as its target sees it
abbrev pub arc_of : List Edge → Edge → Arc
arc_of es e = record { source = e.src; weight = e.weight; outdegree = outdegree es e.src }

-- an arc with the id of its source in place of its position
abbrev pub with_id : List ℕ → Arc → Arc
with_id vs a = record { source = slice_index vs a.source; weight = a.weight; outdegree = a.outdegree }

-- positions of these ids
pub record ArePositions (vs : List ℕ) (positions ids : List ℕ) : Type 0 where
  pub within : All (λ k. k < length vs) positions
  pub at : map (slice_index vs) positions ≡ ids

-- arcs of these edges, in their order
pub record AreArcs (vs : List ℕ) (es : List Edge) (arcs : List Arc) (edges : List Edge) : Type 0 where
  pub within : All (λ a. a.source < length vs) arcs
  pub at : map (with_id vs) arcs ≡ map (arc_of es) edges

-- the arcs into position k, and the targets of the edges out of it
abbrev pub arcs_at : Index → ℕ → List Arc
arcs_at index k = row index.incoming.starts index.incoming.items k

abbrev pub targets_at : Index → ℕ → List ℕ
targets_at index k = row index.outgoing.starts index.outgoing.items k

-- the index shows each edge once at its target and once at its source, in the order of the edges
pub record IsIndex (es : List Edge) (vs : List ℕ) (index : Index) : Type 0 where
  pub incoming : length index.incoming.starts ≡ length vs + 1
  pub outgoing : length index.outgoing.starts ≡ length vs + 1
  pub arcs : (k : ℕ) → k < length vs → AreArcs vs es (arcs_at index k) (filter (λ e. e.dst == slice_index vs k) es)
  pub targets : (k : ℕ) → k < length vs → ArePositions vs (targets_at index k) (map (λ e. e.dst) (filter (λ e. e.src == slice_index vs k) es))
