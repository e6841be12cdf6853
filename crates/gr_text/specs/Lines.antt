-- The lines of a text: the pieces between line ends.
use Rattle.std.specs.Prelude.{ℕ, ◌-◌, Bool, ◌==◌, if◌then◌else◌, List, length, take, slice_index}

abbrev pub is_line_end : ℕ → Bool
is_line_end b = b == 10

-- a line without the one carriage return at its end, if it has one
abbrev pub without_return_of : List ℕ → List ℕ
without_return_of line = if slice_index line (length line - 1) == 13 then take (length line - 1) line else line
