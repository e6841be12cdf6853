-- Marks of a place in the sets of the ends of edges.
use Rattle.std.specs.Prelude.{◌≡◌, ℕ, ◌<◌, ◌==◌, ◌&&◌, ◌||◌, Bool, nat_lt, List, [], length, slice_index, slice_index_or}
use Rattle.std.specs.List.{list_any}
use Rattle.gr_base.specs.declared.records.Edge.{Edge}
use Rattle.gr_base.specs.Rising.{has}
use Rattle.gr_cut.specs.Cut.{home}

-- whether an edge begins or ends at a vertex
abbrev pub touches : Edge → ℕ → Bool
touches e v = (e.src == v) || (e.dst == v)

-- the edge of a number
abbrev pub edge_at : List Edge → ℕ → Edge
edge_at es n = slice_index_or es n (record { src = 0; dst = 0; weight = 0 })

-- whether one of some numbers is that of an edge of the vertex
abbrev pub is_end : List Edge → List ℕ → ℕ → Bool
is_end es numbers v = list_any (λ n. touches (edge_at es n) v) numbers

-- a place was put into the set of each vertex that passes the test
pub record IsMarked (vs : List ℕ) (p : ℕ) (test : ℕ → Bool) (old new : List (List ℕ)) : Type 0 where
  pub long : length new ≡ length old
  pub members : (k : ℕ) → k < length vs → (r : ℕ) → has (slice_index_or new k []) r ≡ (has (slice_index_or old k []) r || ((p == r) && test (slice_index vs k)))

-- each vertex has its home in its set, and of the first p places those with an edge of it
pub record AreEnds (places p : ℕ) (es : List Edge) (rows : List (List ℕ)) (vs : List ℕ) (sets : List (List ℕ)) : Type 0 where
  pub long : length sets ≡ length vs
  pub members : (k : ℕ) → k < length vs → (r : ℕ) → has (slice_index_or sets k []) r ≡ ((home places (slice_index vs k) == r) || (nat_lt r p && is_end es (slice_index_or rows r []) (slice_index vs k)))
