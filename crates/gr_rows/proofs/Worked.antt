-- Small cases of what staging does to a layer.
use Rattle.std.proofs.Common.{◌≡◌, ℕ, Bool, true, false, [], ◌∷◌, Option, None, Some, map, refl}
use Rattle.gr_program.specs.declared.copy.VertexCopy.{VertexCopy}
use Rattle.gr_rows.specs.Layers.{copy_with_value, copy_with_mark}

abbrev copy : ℕ → Option ℕ → Bool → VertexCopy ℕ
copy v x due = record { vertex = v; indeg = 0; outdeg = 0; master = 0; holders = []; value = x; due = due }

-- the copy of vertex 3 gets the value
value_of-3 : map (copy_with_value 3 7) (copy 2 None true ∷ copy 3 None true ∷ []) ≡ copy 2 None true ∷ copy 3 (Some 7) true ∷ []
value_of-3 = refl

-- a mark comes where the vertex is listed, and goes where it is not
marks_of-2-5 : map (copy_with_mark (2 ∷ 5 ∷ [])) (copy 2 None false ∷ copy 3 None true ∷ []) ≡ copy 2 None true ∷ copy 3 None false ∷ []
marks_of-2-5 = refl
