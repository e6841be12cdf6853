-- What a call makes of a count.
use Rattle.std.specs.Prelude.{◌≡◌, ℕ, ◌≤◌}
use Rattle.gr_outside.specs.Causes.{Rose}

-- a count rises exactly where something happened, and does not fall
pub record Counts (Happened : Type 0) (before after : ℕ) : Type 0 where
  pub rose : Happened → Rose before after
  pub kept : (Happened → ⊥) → after ≡ before
  pub later : before ≤ after
