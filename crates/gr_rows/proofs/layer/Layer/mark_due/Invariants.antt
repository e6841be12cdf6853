use Rattle.std.proofs.Common.{◌≡◌, ◌≤◌, take, map, length}
use Rattle.gr_base.specs.Rising.{RisesBy}
use Rattle.gr_rows.specs.Layers.{vertex_of, copy_with_mark}
use Rattle.gr_rows.proofs.layer.Layer.mark_due.Given as goal

abbrev pub invariant-loop-v : goal.invariant-loop-v
invariant-loop-v g l = record {
  copies : l.self.copies ≡ map (copy_with_mark (take l.v-index l.due)) l.fn.self.copies;
  rises : RisesBy vertex_of l.self.copies;
  len : length l.self.copies ≡ length l.fn.self.copies;
  room : l.fn.self.room ≤ l.self.room;
}
