use Rattle.std.proofs.Common.{◌≡◌, take}
use Rattle.std.specs.List.{flat_map}
use Rattle.gr_batch.specs.Spelling.{number_bytes}
use Rattle.gr_batch.proofs.spelling.bytes_of.Given as goal

abbrev pub invariant-loop-number : goal.invariant-loop-number
invariant-loop-number g l = l.bytes.items ≡ flat_map number_bytes (take l.number-index l.number-items)
