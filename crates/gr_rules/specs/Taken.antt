-- The edges that a place takes over from retiring places, and the vertices that it asks for.
use Rattle.std.specs.Prelude.{ℕ, Bool, false, ◌&&◌, ◌==◌, List, [], ◌∷◌, Option, Some, None, map, flat_map, get_or, is_none}
use Rattle.std.specs.List.{filter, filter_map}
use Rattle.gr_base.specs.declared.records.NumberedEdge.{NumberedEdge}
use Rattle.gr_base.specs.Places.{below}
use Rattle.gr_program.specs.declared.copy.VertexCopy.{VertexCopy}
use Rattle.gr_cut.specs.Cut.{is_high, edge_place}
use Rattle.gr_copies.specs.declared.view.RebuildView.{RebuildView}
use Rattle.gr_copies.specs.Granter.{granter, is_retiring, new_master}
use Rattle.gr_log.specs.declared.record.LogRecord.{LogRecord}
use Rattle.gr_log.specs.Log.{Log, empty_log}
use Rattle.gr_log.specs.Directory.{Entry, entry_in, kept_edges, with_items, rising}
use Rattle.gr_rules.specs.Rows.{row}

abbrev pub log_at : List Log → ℕ → Log
log_at logs p = get_or logs p empty_log

-- whether p grants the vertex of an entry
abbrev pub is_granter : RebuildView → Entry → ℕ → Bool
is_granter w e p = elim (granter w.dead e.master e.holders) [ None ↦ false | Some q ↦ q == p ]

abbrev pub master_after : RebuildView → Entry → ℕ
master_after w e = new_master w e.master e.holders

-- an edge of a log, with the entries of its ends there
pub record Ends : Type 0 where
  pub arc : NumberedEdge
  pub src : Entry
  pub dst : Entry

abbrev pub ends_of : NumberedEdge → Option Entry → Option Entry → Option Ends
ends_of a None d = None
ends_of a (Some s) None = None
ends_of a (Some s) (Some d) = Some (record { arc = a; src = s; dst = d })

unfoldable pub edges_with_ends : List LogRecord → List Ends
edges_with_ends rs = filter_map (λ a. ends_of a (entry_in rs a.edge.src) (entry_in rs a.edge.dst)) (kept_edges rs)

-- whether the cut gives the edge to p under the new masters
abbrev pub goes_to : RebuildView → ℕ → Ends → Bool
goes_to w p x = edge_place (master_after w x.src) (master_after w x.dst) (is_high w.theta x.dst.indeg) == p

-- the edges in the logs of retiring places that go to p
unfoldable pub taken : RebuildView → List Log → ℕ → List Ends
taken w logs p =
    flat_map (λ r. filter (goes_to w p) (edges_with_ends (log_at logs r).committed)) (filter (is_retiring w) (below w.places))

unfoldable pub taken_edges : RebuildView → List Log → ℕ → List NumberedEdge
taken_edges w logs p = with_items (λ a. a.number) (map (λ x. x.arc) (taken w logs p)) []

-- Ask: the ends of taken edges that p lacks and that q grants
unfoldable pub ask_body : {V : Type 0} → RebuildView → List Log → ℕ → List (VertexCopy V) → ℕ → List ℕ
ask_body w logs p rows q =
    rising (map (λ e. e.vertex) (filter (λ e. is_none (row rows e.vertex) && is_granter w e q) (flat_map (λ x. x.src ∷ x.dst ∷ []) (taken w logs p))))
