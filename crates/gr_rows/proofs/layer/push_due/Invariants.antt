use Rattle.std.proofs.Common.{◌≡◌, ◌≤◌, take}
use Rattle.std.specs.Vec.{vec_capacity}
use Rattle.gr_rows.specs.Layer.{is_due}
use Rattle.gr_rows.specs.Positions.{positions_from}
use Rattle.gr_rows.proofs.layer.push_due.Given as goal

abbrev pub invariant-loop-i : goal.invariant-loop-i
invariant-loop-i g l = record {
  below : l.positions.items ≡ positions_from is_due 0 (take l.i l.copies);
  capacity : vec_capacity l.initial.positions ≤ vec_capacity l.positions;
}
