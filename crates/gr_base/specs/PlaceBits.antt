-- The members of a set of places, by whatever holds its bits.
use Rattle.std.specs.Prelude.{ℕ, zero, suc, ◌+◌, Bool, ◌==◌, if◌then◌else◌, List, [], ◌∷◌}
use Rattle.std.specs.Int.{bit_at}

-- Of the k numbers from a on those that pass the test, rising. A set of places is seen so, whatever holds its bits.
unfoldable pub members_from : (ℕ → Bool) → ℕ → ℕ → List ℕ
members_from test a zero = []
members_from test a (suc k) = if test a then a ∷ members_from test (a + 1) k else members_from test (a + 1) k

-- bit p of a word is set
abbrev pub is_bit : ℕ → ℕ → Bool
is_bit word p = bit_at word p == 1
