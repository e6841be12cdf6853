-- The seeds that a vertex is.
use Rattle.std.specs.Prelude.{ℕ, ◌==◌, min, List, length, slice_index}
use Rattle.std.specs.List.{filter}
use Rattle.gr_base.specs.Places.{below, word_of}

-- the word whose set bits are the i, of the first 64, at which the seed is v
abbrev pub seed_bits : List ℕ → ℕ → ℕ
seed_bits seeds v = word_of (filter (λ i. slice_index seeds i == v) (below (min (length seeds) 64)))
