-- The values that a place masters.
use Rattle.std.specs.Prelude.{ℕ, ◌==◌, List, Option, None, if◌then◌else◌, option_map}
use Rattle.std.specs.List.{filter, filter_map}
use Rattle.gr_program.specs.declared.copy.VertexCopy.{VertexCopy}
use Rattle.gr_program.specs.declared.program.ValueOf.{ValueOf}

module _ {V : Type 0} where
  -- the vertex of a value
  abbrev pub vertex_in : ValueOf V → ℕ
  vertex_in x = x.vertex

  -- the value of a copy, where one is kept
  abbrev pub value_in : VertexCopy V → Option (ValueOf V)
  value_in r = option_map (λ x. record { vertex = r.vertex; value = x }) r.value

  -- and where the place masters it
  abbrev pub mastered_value : ℕ → VertexCopy V → Option (ValueOf V)
  mastered_value p r = if r.master == p then value_in r else None

  -- the values of the copies that the place masters
  abbrev pub mastered_in : ℕ → List (VertexCopy V) → List (ValueOf V)
  mastered_in p rows = filter_map value_in (filter (λ r. r.master == p) rows)
