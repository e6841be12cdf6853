-- What a sink took.
use Rattle.std.specs.Prelude.{◌≡◌, ℕ, List, ◌++◌, Option, Some, IfSome}

-- the bytes that a sink took so far, where it tells them, and how often a put failed
pub record SinkSeen : Type 0 where
  pub taken : Option (List ℕ)
  pub faults : ℕ

-- where it told its bytes, it took these besides, and goes on telling
abbrev pub Gains : SinkSeen → SinkSeen → List ℕ → Type 0
Gains before after bytes = IfSome before.taken (λ had. after.taken ≡ Some (had ++ bytes))
