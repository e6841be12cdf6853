-- What the sums along edges need of the copies at a place.
use Rattle.std.specs.Prelude.{◌<◌, List, IsSomeAnd, IsTrue}
use Rattle.std.specs.List.{All}
use Rattle.gr_base.specs.declared.records.NumberedEdge.{NumberedEdge}
use Rattle.gr_program.specs.declared.copy.VertexCopy.{VertexCopy}
use Rattle.gr_program.specs.Program.{Program}
use Rattle.gr_rules.specs.Rows.{row}

module _ {V A : Type 0} (P : Program V A) where
  -- a copy with a value of the program, of a vertex that an edge leaves
  pub record IsSource (c : VertexCopy V) : Type 0 where
    pub value : IsSomeAnd c.value (λ x. IsTrue (P.is_value x))
    pub outdeg : 0 < c.outdeg

  -- the source of each edge has such a copy
  abbrev pub SourcesReady : List (VertexCopy V) → List NumberedEdge → Type 0
  SourcesReady rows arcs = All (λ a. IsSomeAnd (row rows a.edge.src) IsSource) arcs
