use Rattle.std.proofs.Common.{◌≡◌, ◌≤◌, ◌+◌, length, drop}
use Rattle.gr_sched.specs.Reading.{lines_of}
use Rattle.gr_sched.proofs.Prefixes.{IsTaken}
use Rattle.gr_sched.proofs.read.take_lines.Given as goal

abbrev pub invariant-lines : goal.invariant-lines
invariant-lines l = record {
  short : l.done + length l.rest ≤ length l.bytes;
  taken : IsTaken (lines_of l.places l.bytes) l.done l.lines;
  left : lines_of l.places l.rest ≡ drop l.done (lines_of l.places l.bytes);
}

abbrev pub decreases-lines : goal.decreases-lines
decreases-lines l = length l.rest
