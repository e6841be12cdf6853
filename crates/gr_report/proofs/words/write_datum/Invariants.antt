use Rattle.std.proofs.Common.{◌≡◌, ◌++◌, take}
use Rattle.gr_report.specs.Trace.{comma_text}
use Rattle.gr_report.proofs.words.write_datum.Given as goal

abbrev pub invariant-loop-i : goal.invariant-loop-i
invariant-loop-i g l = l.line.items ≡ l.initial.line.items ++ comma_text (take l.i (g.D.Datum.numbers_of l.datum))
