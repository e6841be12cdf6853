use Rattle.std.proofs.Common.{◌≡◌, drop, length}
use Rattle.std.specs.Vec.{vec_len, vec_capacity}
use Rattle.gr_rows.specs.Changes.{SameBut}
use Rattle.gr_rows.proofs.layer.copy_at.Given as goal

abbrev pub invariant-loop-at : goal.invariant-loop-at
invariant-loop-at g l = record {
  same : SameBut (drop l.at-index l.positions) l.items.items l.from;
  len : vec_len l.items ≡ length l.from;
  capacity : vec_capacity l.items ≡ vec_capacity l.initial.items;
}
