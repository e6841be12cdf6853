-- The edges of a log with the entries of their ends.
use Rattle.std.specs.Prelude.{ℕ, ◌≡◌, ◌==◌, true, List, Option, flat_map}
use Rattle.std.specs.List.{All, filter, find}
use Rattle.gr_base.specs.declared.records.NumberedEdge.{NumberedEdge}
use Rattle.gr_base.specs.Rising.{has}
use Rattle.gr_base.specs.Places.{below}
use Rattle.gr_cut.specs.Cut.{is_high, edge_place}
use Rattle.gr_copies.specs.declared.view.RebuildView.{RebuildView}
use Rattle.gr_copies.specs.Granter.{is_retiring}
use Rattle.gr_log.specs.Log.{Log}
use Rattle.gr_log.specs.Directory.{Entry, directory_in}
use Rattle.gr_rules.specs.Taken.{Ends, ends_of, edges_with_ends, master_after, log_at}

-- an edge with the entries of its ends, where both are there
abbrev pub ends_among : List Entry → NumberedEdge → Option Ends
ends_among es a = ends_of a (find (λ e. e.vertex == a.edge.src) es) (find (λ e. e.vertex == a.edge.dst) es)

-- the place of the edge under the new masters
abbrev pub place_after : RebuildView → Ends → ℕ
place_after w x = edge_place (master_after w x.src) (master_after w x.dst) (is_high w.theta x.dst.indeg)

-- the master is among the holders
abbrev pub KnowsMaster : Entry → Type 0
KnowsMaster e = has e.holders e.master ≡ true

pub record KnowsMasters (x : Ends) : Type 0 where
  pub src : KnowsMaster x.src
  pub dst : KnowsMaster x.dst

-- the places that retire
abbrev pub retiring : RebuildView → List ℕ
retiring w = filter (is_retiring w) (below w.places)

-- in the log of each place that retires, the last entry of each vertex has its master among its holders
abbrev pub MastersKnown : RebuildView → List Log → Type 0
MastersKnown w logs = All (λ r. All KnowsMaster (directory_in (log_at logs r).committed)) (retiring w)

-- the edges in their logs, one log after another
unfoldable pub retired_edges : RebuildView → List Log → List Ends
retired_edges w logs = flat_map (λ r. edges_with_ends (log_at logs r).committed) (retiring w)
