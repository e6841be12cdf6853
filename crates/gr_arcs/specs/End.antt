-- The ends of an edge.
use Rattle.std.specs.Prelude.{ℕ}
use Rattle.gr_base.specs.declared.records.Edge.{Edge}
use Rattle.gr_arcs.specs.declared.end.End.{End}
use Rattle.gr_arcs.specs.declared.end.End.TheVariants as end

-- the vertex at an end of an edge
abbrev pub vertex_at : End → Edge → ℕ
vertex_at end.Source e = e.src
vertex_at end.Target e = e.dst
