-- The text of a schedule.
use Rattle.std.specs.Prelude.{ℕ, List, ◌++◌, flat_map, codes}
use Rattle.gr_sched.specs.declared.event.Line.{Line}
use Rattle.gr_sched.specs.declared.event.Line.TheVariants as line
use Rattle.gr_sched.specs.EventText.{event_text}

abbrev pub line_text : Line → List ℕ
line_text (line.Step e) = event_text e ++ codes "\n"
line_text line.Settle = codes "settle\n"
line_text line.Finish = codes "finish\n"

-- a schedule, one line for each of its lines
abbrev pub schedule_text : List Line → List ℕ
schedule_text ls = flat_map line_text ls
