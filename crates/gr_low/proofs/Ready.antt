-- When the sources of edges are ready.
use Rattle.std.proofs.Common.{Bool, List}
use Rattle.std.specs.Prelude.{IsSomeAnd}
use Rattle.std.specs.List.{filter}
use Rattle.std.proofs.lemmas.List.Elements.{All-filter}
use Rattle.gr_base.specs.declared.records.NumberedEdge.{NumberedEdge}
use Rattle.gr_program.specs.declared.copy.VertexCopy.{VertexCopy}
use Rattle.gr_program.specs.Program.{Program}
use Rattle.gr_rules.specs.Rows.{row}
use Rattle.gr_low.specs.Sources.{IsSource, SourcesReady}

-- those of all edges make those of some
pub SourcesReady-filter : {V A : Type 0} (P : Program V A) (rows : List (VertexCopy V)) (p : NumberedEdge → Bool) (arcs : List NumberedEdge) → SourcesReady P rows arcs → SourcesReady P rows (filter p arcs)
SourcesReady-filter P rows p arcs ready = All-filter p (λ (a : NumberedEdge). IsSomeAnd (row rows a.edge.src) (IsSource P)) arcs ready
