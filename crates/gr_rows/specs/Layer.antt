-- What contracts see of one layer of `Rows`.
use Rattle.std.specs.Prelude.{ℕ, ◌≡◌, ◌≢◌, ◌<◌, ◌==◌, nat_lt, Bool, true, if◌then◌else◌, List, length, slice_index_or}
use Rattle.std.specs.List.{prefix_len}
use Rattle.gr_program.specs.declared.copy.VertexCopy.{VertexCopy}
use Rattle.gr_rows.specs.Layers.{vertex_of}

-- the copies of a layer, and how many copies it can hold before it takes further memory
pub record LayerCopies (V : Type 0) : Type 0 where
  pub copies : List (VertexCopy V)
  pub room : ℕ

-- the copy at this position is that of the vertex
pub record IsAt {V : Type 0} (v at : ℕ) (copies : List (VertexCopy V)) : Type 0 where
  pub place : prefix_len (λ c. nat_lt c.vertex v) copies ≡ at
  pub within : at < length copies
  pub is : (d : VertexCopy V) → vertex_of (slice_index_or copies at d) ≡ v

-- no copy is of the vertex, and one of it goes to this position
pub record GoesAt {V : Type 0} (v at : ℕ) (copies : List (VertexCopy V)) : Type 0 where
  pub place : prefix_len (λ c. nat_lt c.vertex v) copies ≡ at
  pub apart : (d : VertexCopy V) → at < length copies → vertex_of (slice_index_or copies at d) ≢ v

-- whether a copy is due
abbrev pub is_due : {V : Type 0} → VertexCopy V → Bool
is_due c = c.due

-- the copy, due if it is one of vertex v, and else as it was
abbrev pub copy_made_due : {V : Type 0} → ℕ → VertexCopy V → VertexCopy V
copy_made_due v c = if c.vertex == v then record c { due = true } else c
