-- What contracts see of `Rows`.
use Rattle.std.specs.Prelude.{ℕ, ◌==◌, List, Some, if◌then◌else◌}
use Rattle.gr_base.specs.Rising.{RisesBy, has}
use Rattle.gr_program.specs.declared.copy.VertexCopy.{VertexCopy}

-- the copies at a place as they count now, and as they count from the next install on
pub record CopyLayers (V : Type 0) : Type 0 where
  pub stable : List (VertexCopy V)
  pub pending : List (VertexCopy V)

-- the vertex of a copy
abbrev pub vertex_of : {V : Type 0} → VertexCopy V → ℕ
vertex_of c = c.vertex

-- in each layer the vertices rise
pub record CopiesRise {V : Type 0} (layers : CopyLayers V) : Type 0 where
  pub stable_rises : RisesBy vertex_of layers.stable
  pub pending_rises : RisesBy vertex_of layers.pending

-- the copy, with the value x if it is one of vertex v
abbrev pub copy_with_value : {V : Type 0} → ℕ → V → VertexCopy V → VertexCopy V
copy_with_value v x c = if c.vertex == v then record c { value = Some x } else c

-- the copy, due exactly where its vertex is listed
abbrev pub copy_with_mark : {V : Type 0} → List ℕ → VertexCopy V → VertexCopy V
copy_with_mark due c = record c { due = has due c.vertex }
