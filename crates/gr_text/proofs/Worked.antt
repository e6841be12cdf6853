-- Small cases of lines and their fields, computed.
use Rattle.std.proofs.Common.{◌≡◌, ℕ, zero, suc, [], ◌∷◌, Option, Some, None, map, refl}
use Rattle.std.specs.Prelude.{codes}
use Rattle.std.specs.List.{slice_split}
use Rattle.gr_text.specs.Faults.{first_fault_by}
use Rattle.gr_text.specs.Fields.{fields_of}
use Rattle.gr_text.specs.Lines.{is_line_end, without_return_of}

-- blanks at the front, twice and at the end make no field
blanks_between : fields_of (codes "  a\t b ") ≡ codes "a" ∷ codes "b" ∷ []
blanks_between = refl

-- one return of two, and none that stands before a blank; an end at the end leaves an empty line
lines_and_returns : map without_return_of (slice_split is_line_end (codes "a\r\r\nb\r \n")) ≡ codes "a\r" ∷ codes "b\r " ∷ [] ∷ []
lines_and_returns = refl

abbrev shown : ℕ → Option ℕ
shown zero = None
shown (suc n) = Some (suc n)

second_of_three : first_fault_by shown 3 ≡ Some 1
second_of_three = refl
