-- The fields of a line.
use Rattle.std.specs.Prelude.{ℕ, Bool, ◌==◌, ◌||◌, nat_lt, List, length}
use Rattle.std.specs.List.{filter, slice_split}

-- a space or a tab
abbrev pub is_blank : ℕ → Bool
is_blank b = b == 32 || b == 9

-- the pieces between blanks that are not empty
abbrev pub fields_of : List ℕ → List (List ℕ)
fields_of text = filter (λ f. nat_lt 0 (length f)) (slice_split is_blank text)
