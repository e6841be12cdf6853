-- Counts of what happened, which never fall.
use Rattle.std.specs.Prelude.{ℕ, ◌+◌, ◌-◌, ◌^◌, ◌≤◌, min}

-- one more, as far as 64 bits go
abbrev pub one_more : ℕ → ℕ
one_more n = min (n + 1) (2 ^ 64 - 1)

-- a count rose, or stands at 2^64 - 1
abbrev pub Rose : ℕ → ℕ → Type 0
Rose before after = one_more before ≤ after
