-- What the laws of a program give for lists of sums, and what the definition of the rounds gives.
use Rattle.std.specs.Prelude.{◌≡◌, ℕ, ◌<◌, ◌^◌, false, IsTrue, List, [], ◌∷◌, ◌++◌, map}
use Rattle.std.specs.List.{All}
use Rattle.std.specs.List.Sorted.{IsPermutation}
use Rattle.gr_base.specs.declared.records.Edge.{Edge}
use Rattle.gr_program.specs.Program.{Program, total}
use Rattle.gr_program.specs.ProgramLaws.{ProgramLaws}
use Rattle.gr_program.specs.Rounds.{IsLastRound, last_round, state_after, gathered}

-- the lists, one after another
abbrev pub flat : {A : Type 0} → List (List A) → List A
flat [] = []
flat (xs ∷ rest) = xs ++ flat rest

-- sums of a program
abbrev pub AreSums : {V A : Type 0} → Program V A → List A → Type 0
AreSums p xs = All (λ a. IsTrue (p.is_acc a)) xs

-- the order of a list does not change its join
abbrev pub JoinOfAPermutation : (V A : Type 0) → Type 0
JoinOfAPermutation V A = (p : Program V A) → ProgramLaws p → (xs ys : List A) → AreSums p xs → IsPermutation xs ys → total p ys ≡ total p xs

-- a list may be joined by parts
abbrev pub JoinOfParts : (V A : Type 0) → Type 0
JoinOfParts V A = (p : Program V A) → ProgramLaws p → (parts : List (List A)) → All (AreSums p) parts → total p (flat parts) ≡ total p (map (total p) parts)

-- the round that a run ends at is the least after which no vertex is active, or the limit
abbrev pub LastRoundIsLeast : (V A : Type 0) → Type 0
LastRoundIsLeast V A = (p : Program V A) (es : List Edge) (vs : List ℕ) (limit : ℕ) → IsLastRound p es vs limit (last_round p es vs limit)

-- Under a forgetful program a vertex that is not active has the value that `apply` gives it once more, whatever the old value is:
-- every vertex was active in the first round, and a change that woke nobody left each contribution as it was.
abbrev pub InactiveMayBeRecomputed : (V A : Type 0) → Type 0
InactiveMayBeRecomputed V A =
    (p : Program V A) → ProgramLaws p → IsTrue p.forgetful → (es : List Edge) → All (λ e. e.src < 2 ^ 32) es → (r v : ℕ) → v < 2 ^ 32 → (state_after p es r).active v ≡ false
    → (x : V) → IsTrue (p.is_value x) → (state_after p es r).value v ≡ p.apply v x (gathered p es (state_after p es r).value v)
