-- A layer's edges laid out by the vertex at one end, and what holds of the two layers with their indices.
use Rattle.std.specs.Prelude.{ℕ, ◌≡◌, ◌==◌, Bool, false, List, filter, length}
use Rattle.std.specs.List.Sorted.{IsNonDecreasingBy}
use Rattle.gr_base.specs.Rising.{RisesBy}
use Rattle.gr_base.specs.declared.records.NumberedEdge.{NumberedEdge}
use Rattle.gr_arcs.specs.declared.end.End.{End}
use Rattle.gr_arcs.specs.declared.end.End.TheVariants as end
use Rattle.gr_arcs.specs.End.{vertex_at}
use Rattle.gr_arcs.specs.Layers.{number_of}

-- as many edges, whose vertices at that end do not fall, and those of a vertex as they stand in the layer
pub record IsIndex (end : End) (edges index : List NumberedEdge) : Type 0 where
  pub grouped : IsNonDecreasingBy (λ e. vertex_at end e.edge) index
  pub same : (v : ℕ) → filter (λ e. vertex_at end e.edge == v) index ≡ filter (λ e. vertex_at end e.edge == v) edges
  pub len : length index ≡ length edges

-- both layers rise, the stable one has its two indices, and where nothing is staged the layers are the same
unfoldable pub IsLaidOut : (stable pending by_target by_source : List NumberedEdge) (staged : Bool) → Type 0
IsLaidOut stable pending by_target by_source staged = record {
  stable_rises : RisesBy number_of stable;
  pending_rises : RisesBy number_of pending;
  targets : IsIndex end.Target stable by_target;
  sources : IsIndex end.Source stable by_source;
  settled : staged ≡ false → pending ≡ stable;
}
