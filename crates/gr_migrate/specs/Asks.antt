-- What a place takes over of some edges of places that retire, and what it asks for.
use Rattle.std.specs.Prelude.{ℕ, ◌&&◌, Bool, List, [], ◌∷◌, map, flat_map, is_none}
use Rattle.std.specs.List.{filter, fold}
use Rattle.gr_base.specs.declared.records.NumberedEdge.{NumberedEdge}
use Rattle.gr_base.specs.Places.{with_place}
use Rattle.gr_program.specs.declared.copy.VertexCopy.{VertexCopy}
use Rattle.gr_copies.specs.declared.view.RebuildView.{RebuildView}
use Rattle.gr_log.specs.Directory.{Entry, with_items}
use Rattle.gr_rules.specs.Rows.{row}
use Rattle.gr_rules.specs.Taken.{Ends, is_granter, goes_to}

-- those that go to p, by rising number
unfoldable pub taken_among : RebuildView → ℕ → List Ends → List NumberedEdge
taken_among w p edges = with_items (λ a. a.number) (map (λ x. x.arc) (filter (goes_to w p) edges)) []

-- the entries of their ends
abbrev pub both_ends : Ends → List Entry
both_ends x = x.src ∷ x.dst ∷ []

abbrev pub ends_taken : RebuildView → ℕ → List Ends → List Entry
ends_taken w p edges = flat_map both_ends (filter (goes_to w p) edges)

-- whether the vertex of an entry has no copy among these, and q grants it
abbrev pub is_missing_from : {V : Type 0} → RebuildView → List (VertexCopy V) → ℕ → Entry → Bool
is_missing_from w rows q e = is_none (row rows e.vertex) && is_granter w e q

-- a rising list with the vertices of those entries that have no copy among these and that q grants
abbrev pub with_missing : {V : Type 0} → RebuildView → List (VertexCopy V) → ℕ → List ℕ → List Entry → List ℕ
with_missing w rows q vertices entries = fold with_place vertices (map (λ e. e.vertex) (filter (is_missing_from w rows q) entries))

-- the vertices that p with these copies asks q for
unfoldable pub asked_among : {V : Type 0} → RebuildView → ℕ → List (VertexCopy V) → ℕ → List Ends → List ℕ
asked_among w p rows q edges = with_missing w rows q [] (ends_taken w p edges)
