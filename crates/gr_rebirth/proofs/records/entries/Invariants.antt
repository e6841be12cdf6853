use Rattle.std.proofs.Common.{◌≡◌, take, filter_map}
use Rattle.gr_log.specs.Directory.{entry_of}
use Rattle.gr_rebirth.proofs.records.entries.Given as goal

abbrev pub invariant-loop-item : goal.invariant-loop-item
invariant-loop-item l = l.entries ≡ filter_map entry_of (take l.item-index l.records)
