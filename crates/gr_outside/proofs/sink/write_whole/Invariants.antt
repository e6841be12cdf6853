use Rattle.std.proofs.Common.{◌≡◌, length, ℕ, ◌≤◌, take, drop}
use Rattle.gr_outside.specs.Sink.{Gains}
use Rattle.gr_outside.proofs.sink.write_whole.Given as goal

abbrev pub invariant-loop-rest : goal.invariant-loop-rest
invariant-loop-rest g l =
    record {
      unfailed : (g.S.Sink.seen l.sink).faults ≡ (g.S.Sink.seen l.initial.sink).faults;
      gained : (n : ℕ) × (n ≤ length l.bytes) × (l.rest ≡ drop n l.bytes) × Gains (g.S.Sink.seen l.initial.sink) (g.S.Sink.seen l.sink) (take n l.bytes);
    }

abbrev pub decreases-loop-rest : goal.decreases-loop-rest
decreases-loop-rest g l = length l.rest
