-- The text of a result.
use Rattle.std.specs.Prelude.{ℕ, List, ◌++◌, map, flat_map, length, decimal, codes}
use Rattle.gr_base.specs.declared.records.Edge.{Edge}
use Rattle.gr_program.specs.declared.program.ValueOf.{ValueOf}
use Rattle.gr_program.specs.Program.{Program}
use Rattle.gr_program.specs.Rounds.{state_after, last_round}

-- each vertex with its value, in the order of the vertices
abbrev pub shown : {V : Type 0} → (ℕ → V) → List ℕ → List (ValueOf V)
shown x vs = map (λ v. record { vertex = v; value = x v }) vs

-- the values of the vertices after r rounds
abbrev pub values_after : {V A : Type 0} → Program V A → List Edge → List ℕ → ℕ → List (ValueOf V)
values_after p es vs r = shown (state_after p es r).value vs

-- a vertex and the text of its value
abbrev pub value_line : {V : Type 0} → (V → List ℕ) → ValueOf V → List ℕ
value_line text x = decimal x.vertex ++ codes " " ++ text x.value ++ codes "\n"

-- the last round, the number of vertices, and a line for each
abbrev pub done_text : {V : Type 0} → (V → List ℕ) → ℕ → List (ValueOf V) → List ℕ
done_text text last xs = codes "done " ++ decimal last ++ codes " " ++ decimal (length xs) ++ codes "\n" ++ flat_map (value_line text) xs

-- what a run over the graph that is not cut prints: its last round, and the values after it
abbrev pub result_text : {V A : Type 0} → Program V A → (V → List ℕ) → List Edge → List ℕ → ℕ → List ℕ
result_text p text es vs limit = let last = last_round p es vs limit in done_text text last (values_after p es vs last)
