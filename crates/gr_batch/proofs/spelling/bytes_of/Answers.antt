use Rattle.std.proofs.Common.{◌∙◌, ap}
use Rattle.std.specs.List.{flat_map}
use Rattle.std.proofs.lemmas.List.{take_all}
use Rattle.gr_batch.specs.Spelling.{number_bytes, batch_bytes}
use Rattle.gr_batch.proofs.spelling.bytes_of.Goals as goal

pub returns : goal.returns
unfolding batch_bytes
returns g c = c.loop-number.invariant ∙ ap (flat_map number_bytes) (take_all c.loop-number.number-index c.deref-number-items.result.now c.loop-number-test.false ∙ c.deref-number-items.ensures.value ∙ c.in_ok-numbers.ensures)
