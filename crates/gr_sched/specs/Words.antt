-- A number in a line of words.
use Rattle.std.specs.Prelude.{ℕ, List, ◌++◌, decimal, codes}

-- numbers, one blank before each
abbrev pub word : ℕ → List ℕ
word n = codes " " ++ decimal n
