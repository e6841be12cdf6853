-- What the cut keeps out of Signal bodies.
use Rattle.std.specs.Prelude.{ℕ, Bool, false, IsTrue, ◌≡◌, ◌≢◌, ◌==◌, List, Option, Some}
use Rattle.std.specs.List.{AllByRecursion as Each}
use Rattle.gr_base.specs.declared.records.NumberedEdge.{NumberedEdge}
use Rattle.gr_base.specs.Rising.{RisesBy, has}
use Rattle.gr_program.specs.declared.copy.VertexCopy.{VertexCopy}
use Rattle.gr_cut.specs.Cut.{is_high, edge_place}
use Rattle.gr_batch.specs.declared.body.NewValue.{NewValue}
use Rattle.gr_rules.specs.Rows.{row}
use Rattle.gr_rules.specs.Round.{signal_body}

-- whether an edge between these copies stands at p by the cut
abbrev pub stands_between : {V : Type 0} → ℕ → ℕ → Option (VertexCopy V) → Option (VertexCopy V) → Bool
stands_between theta p (Some s) (Some d) = edge_place s.master d.master (is_high theta d.indeg) == p
stands_between theta p _ _ = false

-- each edge stands at p by the cut, with the masters and in-degrees that the copies name
abbrev pub StandByCut : {V : Type 0} → ℕ → ℕ → List (VertexCopy V) → List NumberedEdge → Type 0
StandByCut theta p rows arcs = Each (λ a. IsTrue (stands_between theta p (row rows a.edge.src) (row rows a.edge.dst))) arcs

-- where the edges of p stand by the cut, no low vertex is in a Signal body from p to another place
abbrev pub LowAreNotSignalled : Type 0 → Type 0
LowAreNotSignalled V =
    (theta p q : ℕ) (rows : List (VertexCopy V)) (arcs : List NumberedEdge) → RisesBy (λ r. r.vertex) rows → StandByCut theta p rows arcs → q ≢ p
    → (news : List (NewValue V)) (c : VertexCopy V) → row rows c.vertex ≡ Some c → is_high theta c.indeg ≡ false → has (signal_body news rows arcs q) c.vertex ≡ false
