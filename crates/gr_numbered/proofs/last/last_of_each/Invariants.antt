use Rattle.std.proofs.Common.{◌≡◌, [], map, take}
use Rattle.gr_log.specs.Directory.{with_items}
use Rattle.gr_numbered.proofs.LastOfEach.{numbered}
use Rattle.gr_numbered.proofs.last.last_of_each.Given as goal

abbrev pub invariant-loop-item : goal.invariant-loop-item
invariant-loop-item g l =
    let key = g.T.Numbered.number_of in
    l.last.entries ≡ map (numbered key) (with_items key (take l.item-index l.items) [])
