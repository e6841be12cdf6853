-- What a call of `play` leaves in the file of its trace.
use Rattle.std.specs.Prelude.{ℕ, ◌≡◌, false, List, take, IsTrue, IfSome, IsSomeAnd}
use Rattle.gr_outside.specs.Files.{FilesSeen, HasWritten, LetsGo}

-- the named file is begun and has this text, and every other file is as before
abbrev pub Traces : FilesSeen → FilesSeen → List ℕ → List ℕ → Type 0
Traces before after name text = IfSome before.told (λ t. IsSomeAnd after.told (HasWritten t name text))

-- The named file has a first part of the text, once it is begun; every other file is as before.
pub record TracesPart (before after : FilesSeen) (name text : List ℕ) : Type 0 where
  pub begun : IsTrue after.is_begun → (n : ℕ) × Traces before after name (take n text)
  pub not_begun : after.is_begun ≡ false → IfSome before.told (λ t. IsSomeAnd after.told (LetsGo t name))
