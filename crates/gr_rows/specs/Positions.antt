-- Where in a list the elements stand that pass a test.
use Rattle.std.specs.Prelude.{ℕ, ◌+◌, Bool, if◌then◌else◌, List, [], ◌∷◌}

-- the positions of the elements that pass the test, rising, if the first element is at position k
abbrev pub positions_from : {X : Type 0} → (X → Bool) → ℕ → List X → List ℕ
positions_from test k [] = []
positions_from test k (x ∷ xs) = if test x then k ∷ positions_from test (k + 1) xs else positions_from test (k + 1) xs
