-- What stands at the front of a list of numbers or bytes, and what a whole list of numbers tells.
use Rattle.std.specs.Prelude.{ℕ, ◌≡◌, ◌≢◌, ◌<◌, List, [], ◌∷◌, ◌++◌}
use Rattle.gr_batch.specs.declared.body.Body.{Body}
use Rattle.gr_batch.specs.declared.reading.Head.{Head}
use Rattle.gr_batch.specs.Stages.{code_of}
use Rattle.gr_batch.specs.Bodies.{stage_of_body}
use Rattle.gr_batch.specs.Telling.{Telling}
use Rattle.gr_batch.specs.Spelling.{IsShort, AreSpelled, body_numbers}

module _ {X : Type 0} (told : X → List ℕ) (Fits : X → Type 0) where
  -- the list begins with the telling of this value and of no other one that fits, and the rest follows it
  pub record IsFront (numbers : List ℕ) (x : X) (rest : List ℕ) : Type 0 where
    pub fits : Fits x
    pub parts : numbers ≡ told x ++ rest
    pub only : (y : X) (others : List ℕ) → Fits y → numbers ≡ told y ++ others → (x ≡ y) × (rest ≡ others)

  -- it begins with the telling of none that fits
  abbrev pub HasNoFront : List ℕ → Type 0
  HasNoFront numbers = (y : X) (others : List ℕ) → Fits y → numbers ≢ told y ++ others

-- what stands before the items of a batch
abbrev pub head_told : Head → List ℕ
head_told h = h.serial ∷ h.epoch ∷ h.round ∷ h.code ∷ h.sender ∷ h.receiver ∷ []

-- and its ranges
pub record IsHead (h : Head) : Type 0 where
  pub round : IsShort h.round
  pub sender : h.sender < 64
  pub receiver : h.receiver < 64
  pub apart : h.sender ≢ h.receiver

-- the numbers tell a body of the stage of this code
pub record TellBody {V A : Type 0} (T : Telling V A) (code : ℕ) (numbers : List ℕ) (body : Body V A) : Type 0 where
  pub spelled : AreSpelled body
  pub stage : code_of (stage_of_body body) ≡ code
  pub parts : numbers ≡ body_numbers T body
