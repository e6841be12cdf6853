-- How many crash lines a schedule has.
use Rattle.std.specs.Prelude.{ℕ, Bool, true, false, List, count_by}
use Rattle.gr_sched.specs.declared.event.Event.TheVariants as event
use Rattle.gr_sched.specs.declared.event.Line.{Line}
use Rattle.gr_sched.specs.declared.event.Line.TheVariants as line

-- the line of a crash
abbrev pub is_crash_line : Line → Bool
is_crash_line (line.Step (event.Crash p n)) = true
is_crash_line _ = false

-- how many such lines a schedule has
abbrev pub crash_lines : List Line → ℕ
crash_lines ls = count_by is_crash_line ls
