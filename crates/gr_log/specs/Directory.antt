-- What the committed records of a log say: the last entry of each vertex, and the edges.
use Rattle.std.specs.Prelude.{ℕ, ◌==◌, List, [], Option, Some, None}
use Rattle.std.specs.List.{filter_map, find, fold}
use Rattle.gr_base.specs.declared.records.NumberedEdge.{NumberedEdge}
use Rattle.gr_base.specs.Rising.{with_item}
use Rattle.gr_base.specs.Places.{with_place}
use Rattle.gr_log.specs.declared.record.LogRecord.{LogRecord}
use Rattle.gr_log.specs.declared.record.LogRecord.TheVariants as entry

-- what a Held record says of a vertex: all of its copy but the value and the mark
pub record Entry : Type 0 where
  pub vertex : ℕ
  pub indeg : ℕ
  pub outdeg : ℕ
  pub master : ℕ
  pub holders : List ℕ

-- the record of an entry
abbrev pub held_record : Entry → LogRecord
held_record e = entry.Held e.vertex e.indeg e.outdeg e.master e.holders

abbrev pub entry_of : LogRecord → Option Entry
entry_of (entry.Held v i o m hs) = Some (record { vertex = v; indeg = i; outdeg = o; master = m; holders = hs })
entry_of (entry.Kept a) = None

abbrev pub edge_of : LogRecord → Option NumberedEdge
edge_of (entry.Held v i o m hs) = None
edge_of (entry.Kept a) = Some a

-- a rising list with further items, one after another: each is put at its number, in the place of an earlier one
abbrev pub with_items : {X : Type 0} → (X → ℕ) → List X → List X → List X
with_items key news xs = fold (λ ys x. with_item key x ys) xs news

-- the numbers of a list, rising, each once
abbrev pub rising : List ℕ → List ℕ
rising xs = fold with_place [] xs

-- the last entry of each vertex, by rising vertex
unfoldable pub directory_in : List LogRecord → List Entry
directory_in rs = with_items (λ e. e.vertex) (filter_map entry_of rs) []

-- the last entry of a vertex
abbrev pub entry_in : List LogRecord → ℕ → Option Entry
entry_in rs v = find (λ e. e.vertex == v) (directory_in rs)

-- the edges, in the order of their records, and by rising number
abbrev pub kept_edges : List LogRecord → List NumberedEdge
kept_edges rs = filter_map edge_of rs

unfoldable pub edges_in : List LogRecord → List NumberedEdge
edges_in rs = with_items (λ a. a.number) (kept_edges rs) []
