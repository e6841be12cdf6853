use Rattle.std.proofs.Common.{◌≡◌, ◌≤◌, ◌+◌, length, drop}
use Rattle.gr_edges.specs.Reading.{lines_of}
use Rattle.gr_edges.proofs.Prefixes.{IsTaken}
use Rattle.gr_edges.proofs.read.take_lines.Given as goal

abbrev pub invariant-lines : goal.invariant-lines
invariant-lines l = record {
  short : l.done + length l.rest ≤ length l.bytes;
  taken : IsTaken l.undirected (lines_of l.bytes) l.done l.edges l.ids;
  left : lines_of l.rest ≡ drop l.done (lines_of l.bytes);
}

abbrev pub decreases-lines : goal.decreases-lines
decreases-lines l = length l.rest
