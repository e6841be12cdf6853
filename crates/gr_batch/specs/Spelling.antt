-- Batches as bytes.
use Rattle.std.specs.Prelude.{ℕ, zero, suc, ◌≡◌, ◌≢◌, ◌+◌, ◌*◌, ◌/◌, ◌%◌, ◌^◌, ◌<◌, nat_lt, cond, IsTrue, List, [], ◌∷◌, ◌++◌, flat_map, length, if◌then◌else◌}
use Rattle.std.specs.List.{All}
use Rattle.gr_base.specs.Rising.{RisesBy, has}
use Rattle.gr_base.specs.Places.{IsPlaces}
use Rattle.gr_program.specs.declared.copy.VertexCopy.{VertexCopy}
use Rattle.gr_batch.specs.declared.body.Body.{Body}
use Rattle.gr_batch.specs.declared.body.Body.TheVariants as body
use Rattle.gr_batch.specs.declared.batch.Batch.{Batch}
use Rattle.gr_batch.specs.Stages.{code_of}
use Rattle.gr_batch.specs.Bodies.{stage_of_body}
use Rattle.gr_batch.specs.Telling.{Telling}
use Rattle.gr_batch.specs.CopyNumbers.{copy_told}

-- the low seven bits of a number first, and each byte but the last marked by 128; k + 1 bytes at most
abbrev pub groups : ℕ → ℕ → List ℕ
groups zero n = n ∷ []
groups (suc k) n = if nat_lt n 128 then n ∷ [] else (n % 128 + 128) ∷ groups k (n / 128)

-- what they can tell, where the last has one bit
abbrev pub limit : ℕ → ℕ
limit zero = 2
limit (suc k) = 128 * limit k

-- a number below 2 ^ 64 in its shortest spelling, which has ten bytes at most
unfoldable pub number_bytes : ℕ → List ℕ
number_bytes n = groups 9 n

module _ {V A : Type 0} (T : Telling V A) where
  -- the number of items, and the numbers of each
  abbrev pub body_numbers : Body V A → List ℕ
  body_numbers (body.Gather xs) = length xs ∷ flat_map (λ x. x.vertex ∷ T.sum_numbers x.acc) xs
  body_numbers (body.Update xs) = length xs ∷ flat_map (λ x. x.vertex ∷ (T.value_numbers x.value ++ cond x.wake 1 0 ∷ [])) xs
  body_numbers (body.Signal xs) = length xs ∷ xs
  body_numbers (body.Call xs) = length xs ∷ xs
  body_numbers (body.Ask xs) = length xs ∷ xs
  body_numbers (body.Grant xs) = length xs ∷ flat_map (copy_told T.value_numbers) xs

  -- the numbers that tell a batch
  abbrev pub batch_numbers : Batch V A → List ℕ
  batch_numbers b = b.serial ∷ b.epoch ∷ b.round ∷ code_of (stage_of_body b.body) ∷ b.sender ∷ b.receiver ∷ body_numbers b.body

  -- the one spelling of a batch
  unfoldable pub batch_bytes : Batch V A → List ℕ
  batch_bytes b = flat_map number_bytes (batch_numbers b)

-- a vertex, a degree or a round
abbrev pub IsShort : ℕ → Type 0
IsShort n = n < 2 ^ 32

-- a copy that bytes may tell: its master is among its holders
pub record IsGranted {V : Type 0} (c : VertexCopy V) : Type 0 where
  pub vertex : IsShort c.vertex
  pub indeg : IsShort c.indeg
  pub outdeg : IsShort c.outdeg
  pub holders : IsPlaces c.holders
  pub master : IsTrue (has c.holders c.master)

-- items that fit, by rising vertices
pub record AreItems {X : Type 0} (vertex : X → ℕ) (Fits : X → Type 0) (xs : List X) : Type 0 where
  pub each : All Fits xs
  pub rise : RisesBy vertex xs

-- the items of a body that bytes may tell
abbrev pub AreSpelled : {V A : Type 0} → Body V A → Type 0
AreSpelled (body.Gather xs) = AreItems (λ x. x.vertex) (λ x. IsShort x.vertex) xs
AreSpelled (body.Update xs) = AreItems (λ x. x.vertex) (λ x. IsShort x.vertex) xs
AreSpelled (body.Signal xs) = AreItems (λ v. v) IsShort xs
AreSpelled (body.Call xs) = AreItems (λ v. v) IsShort xs
AreSpelled (body.Ask xs) = AreItems (λ v. v) IsShort xs
AreSpelled (body.Grant xs) = AreItems (λ x. x.vertex) IsGranted xs

-- The batches that bytes may tell. Every number is below 2 ^ 64, those of values and sums too.
pub record IsSpelled {V A : Type 0} (T : Telling V A) (b : Batch V A) : Type 0 where
  pub numbers : All (λ n. n < 2 ^ 64) (batch_numbers T b)
  pub round : IsShort b.round
  pub sender : b.sender < 64
  pub receiver : b.receiver < 64
  pub apart : b.sender ≢ b.receiver
  pub items : AreSpelled b.body

-- where bytes begin with the spellings of two batches, these are one batch, and the same bytes follow
abbrev pub NoSpellingBeginsAnother : {V A : Type 0} → Telling V A → Type 0
NoSpellingBeginsAnother {V} {A} T = (b c : Batch V A) (r s : List ℕ) → IsSpelled T b → IsSpelled T c → batch_bytes T b ++ r ≡ batch_bytes T c ++ s → (b ≡ c) × (r ≡ s)
