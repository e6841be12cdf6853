-- The draws of a seed: a linear congruential generator modulo 2 ^ 64, of which the upper 31 bits are drawn.
use Rattle.std.specs.Prelude.{ℕ, zero, suc, ◌+◌, ◌*◌, ◌/◌, ◌%◌, ◌^◌}

-- the state that follows a state
unfoldable pub next_state : ℕ → ℕ
next_state state = (state * 6364136223846793005 + 1442695040888963407) % 2 ^ 64

-- the state after so many steps; the seed is the state before the first
abbrev pub state_after : ℕ → ℕ → ℕ
state_after seed zero = seed
state_after seed (suc steps) = next_state (state_after seed steps)

-- what is drawn from a state: its bits from 33 on
unfoldable pub drawn_from : ℕ → ℕ
drawn_from state = state / 2 ^ 33

-- the draw of a number, counted from 0; a step goes before each draw
abbrev pub draw : ℕ → ℕ → ℕ
draw seed number = drawn_from (state_after seed (suc number))
