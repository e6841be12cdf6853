-- What a vertex program computes, as plain functions.
use Rattle.std.specs.Prelude.{ℕ, Bool, List}
use Rattle.std.specs.List.{fold}

-- The functions of a program over values V and sums A. A value is one where `is_value` says so, and a sum where `is_acc` does.
pub record Program (V A : Type 0) : Type 0 where
  pub is_value : V → Bool
  pub is_acc : A → Bool
  -- the value of a vertex at first, by its id, in-degree and out-degree
  pub start : ℕ → ℕ → ℕ → V
  -- the sum of nothing
  pub unit : A
  -- what an edge brings to its target, by the value of its source, its weight and the out-degree of its source
  pub along : V → ℕ → ℕ → A
  pub join : A → A → A
  -- the new value of a vertex, by its id, its old value and what it gathered
  pub apply : ℕ → V → A → V
  -- whether a change from one value to another wakes the targets of the vertex
  pub wakes : V → V → Bool
  -- whether `apply` forgets the old value, and a change that wakes nobody leaves each contribution as it was
  pub forgetful : Bool

-- the join of a list from the unit
abbrev pub total : {V A : Type 0} → Program V A → List A → A
total p xs = fold p.join p.unit xs
