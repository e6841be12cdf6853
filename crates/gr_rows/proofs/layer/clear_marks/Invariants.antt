use Rattle.std.proofs.Common.{◌≡◌, [], drop, map}
use Rattle.std.specs.Vec.{vec_len, vec_capacity}
use Rattle.gr_rows.specs.Layer.{is_due}
use Rattle.gr_rows.specs.Layers.{copy_with_mark}
use Rattle.gr_rows.specs.Positions.{positions_from}
use Rattle.gr_rows.proofs.layer.clear_marks.Given as goal

abbrev pub invariant-loop-at : goal.invariant-loop-at
invariant-loop-at g l = record {
  left : positions_from is_due 0 l.copies.items ≡ drop l.at-index l.due;
  same : map (copy_with_mark []) l.copies.items ≡ map (copy_with_mark []) l.initial.copies.items;
  len : vec_len l.copies ≡ vec_len l.initial.copies;
  capacity : vec_capacity l.copies ≡ vec_capacity l.initial.copies;
}
