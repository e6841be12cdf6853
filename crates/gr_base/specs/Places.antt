-- Sets of places, as rising lists.
use Rattle.std.specs.Prelude.{ℕ, ◌+◌, ◌^◌, ◌<◌, ◌==◌, not, nat_lt, nat_le, if◌then◌else◌, List, [], ◌∷◌, ◌++◌, Option, slice_get}
use Rattle.std.specs.List.{All, filter, find, range_with_len}
use Rattle.std.specs.Option.{option_or}
use Rattle.gr_base.specs.Rising.{RisesBy}

-- every set: its places rise, and each is below 64
pub record IsPlaces (ps : List ℕ) : Type 0 where
  pub rise : RisesBy (λ p. p) ps
  pub below : All (λ p. p < 64) ps

-- the word whose set bits are these
abbrev pub word_of : List ℕ → ℕ
word_of [] = 0
word_of (p ∷ ps) = 2 ^ p + word_of ps

-- a rising list with one more place
abbrev pub with_place : List ℕ → ℕ → List ℕ
with_place [] p = p ∷ []
with_place (q ∷ qs) p = if nat_lt p q then p ∷ q ∷ qs else (if nat_lt q p then q ∷ with_place qs p else q ∷ qs)

-- a list without a place
abbrev pub without_place : List ℕ → ℕ → List ℕ
without_place ps p = filter (λ q. not (q == p)) ps

-- the first place from one on in ring order: the first that is not below it, or else the first of all
abbrev pub first_from : List ℕ → ℕ → Option ℕ
first_from ps start = option_or (find (λ q. nat_le start q) ps) (slice_get ps 0)

-- the members of a rising list in ring order after m, without m
abbrev pub ring : ℕ → List ℕ → List ℕ
ring m ps = filter (λ q. nat_lt m q) ps ++ filter (λ q. nat_lt q m) ps

-- the places below a count
abbrev pub below : ℕ → List ℕ
below count = range_with_len 0 count
