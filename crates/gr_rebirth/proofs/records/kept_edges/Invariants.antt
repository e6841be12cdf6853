use Rattle.std.proofs.Common.{◌≡◌, take}
use Rattle.gr_log.specs.Directory.{kept_edges}
use Rattle.gr_rebirth.proofs.records.kept_edges.Given as goal

abbrev pub invariant-loop-item : goal.invariant-loop-item
invariant-loop-item l = l.edges ≡ kept_edges (take l.item-index l.records)
