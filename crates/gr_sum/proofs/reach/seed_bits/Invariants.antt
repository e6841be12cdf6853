use Rattle.std.proofs.Common.{◌≡◌}
use Rattle.std.specs.Prelude.{◌==◌, slice_index}
use Rattle.std.specs.List.{filter, range_with_len}
use Rattle.gr_base.specs.Places.{word_of}
use Rattle.gr_sum.proofs.reach.seed_bits.Given as goal

abbrev pub invariant-loop-i : goal.invariant-loop-i
invariant-loop-i l = l.bits ≡ word_of (filter (λ k. slice_index l.seeds k == l.v) (range_with_len 0 l.i))
