-- The numbers that tell a value that may be absent, and a copy of a vertex.
use Rattle.std.specs.Prelude.{ℕ, cond, List, [], ◌∷◌, ◌++◌, Option, Some, None}
use Rattle.gr_base.specs.Places.{word_of}
use Rattle.gr_program.specs.declared.copy.VertexCopy.{VertexCopy}

module _ {V : Type 0} (value_numbers : V → List ℕ) where
  -- whether there is a value, and its numbers where there is one
  abbrev pub value_told : Option V → List ℕ
  value_told None = 0 ∷ []
  value_told (Some x) = 1 ∷ value_numbers x

  -- a copy of a vertex
  abbrev pub copy_told : VertexCopy V → List ℕ
  copy_told c = c.vertex ∷ c.indeg ∷ c.outdeg ∷ c.master ∷ word_of c.holders ∷ (value_told c.value ++ cond c.due 1 0 ∷ [])
