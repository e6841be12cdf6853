use Rattle.std.proofs.Common.{◌≡◌, ◌<◌, ◌^◌, ◌++◌, All, length}
use Rattle.std.specs.List.{flat_map}
use Rattle.gr_batch.specs.Spelling.{number_bytes}
use Rattle.gr_batch.proofs.number.numbers_in.Given as goal

abbrev pub invariant-loop-rest : goal.invariant-loop-rest
invariant-loop-rest l = record { parts : l.bytes ≡ flat_map number_bytes l.numbers.items ++ l.rest; each : All (λ n. n < 2 ^ 64) l.numbers.items }

abbrev pub decreases-loop-rest : goal.decreases-loop-rest
decreases-loop-rest l = length l.rest
