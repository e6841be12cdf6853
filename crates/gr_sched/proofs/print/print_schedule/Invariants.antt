use Rattle.std.proofs.Common.{◌≡◌, take}
use Rattle.std.specs.List.{All}
use Rattle.gr_sched.specs.Printed.{IsLine}
use Rattle.gr_sched.specs.Text.{schedule_text}
use Rattle.gr_sched.proofs.print.print_schedule.Given as goal

abbrev pub invariant-loop-line : goal.invariant-loop-line
invariant-loop-line l = record {
  told : l.text.items ≡ schedule_text (take l.line-index l.lines);
  lines : All IsLine (take l.line-index l.lines);
}
