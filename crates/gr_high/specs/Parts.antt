-- Partial sums: who has them, and how one is joined.
use Rattle.std.specs.Prelude.{ℕ, Bool, ◌&&◌, Option, Some, None}
use Rattle.gr_program.specs.declared.copy.VertexCopy.{VertexCopy}
use Rattle.gr_program.specs.Program.{Program}
use Rattle.gr_batch.specs.declared.body.Part.{Part}
use Rattle.gr_cut.specs.Cut.{is_high}

-- whether the vertex of a copy is due and high
abbrev pub is_due_high : {V : Type 0} → ℕ → VertexCopy V → Bool
is_due_high theta c = c.due && is_high theta c.indeg

-- a sum joined with a part, where there is one
abbrev pub with_part : {V A : Type 0} → Program V A → A → Option (Part A) → A
with_part P own None = own
with_part P own (Some part) = P.join own part.acc
