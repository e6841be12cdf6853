use Rattle.std.proofs.Common.{◌≡◌, ◌++◌, ◌∷◌, length, take}
use Rattle.std.specs.List.{flat_map}
use Rattle.gr_batch.proofs.item.push_items.Given as goal

abbrev pub invariant-loop-item : goal.invariant-loop-item
invariant-loop-item g l = l.numbers.items ≡ l.fn.numbers.items ++ length l.items ∷ flat_map g.I.Item.told (take l.item-index l.items)
