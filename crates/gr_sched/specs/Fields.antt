-- The numbers among the words of a line.
use Rattle.std.specs.Prelude.{ℕ, ◌^◌, ◌&&◌, nat_lt, if◌then◌else◌, List, [], ◌∷◌, Option, Some, None}
use Rattle.std.specs.List.{list_all}
use Rattle.std.specs.Char.{is_ascii_digit}
use Rattle.std.specs.Str.Parse.{digits_value}

-- the number of a field: digits alone, below 2 ^ 32
abbrev pub number_of : List ℕ → Option ℕ
number_of field = if list_all is_ascii_digit field && nat_lt (digits_value 10 field) (2 ^ 32) then Some (digits_value 10 field) else None

-- the number that stands alone
abbrev pub only_number : List (List ℕ) → Option ℕ
only_number (f ∷ []) = number_of f
only_number _ = None

-- the numbers of all fields, where each has one
abbrev pub with_number : Option ℕ → Option (List ℕ) → Option (List ℕ)
with_number (Some n) (Some ns) = Some (n ∷ ns)
with_number _ _ = None

abbrev pub all_numbers : List (List ℕ) → Option (List ℕ)
all_numbers [] = Some []
all_numbers (f ∷ fs) = with_number (number_of f) (all_numbers fs)
