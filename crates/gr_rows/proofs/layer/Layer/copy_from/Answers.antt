use Rattle.std.proofs.Common.{length, ap, arith}
use Rattle.gr_rows.proofs.Positions.{positions-few}
use Rattle.gr_rows.specs.Layer.{LayerCopies, is_due}
use Rattle.gr_rows.proofs.layer.Layer.copy_from.Goals as goal

pub copy_over-requires-2 : goal.copy_over-requires-2
copy_over-requires-2 g c =
    let fits = ap (λ (l : LayerCopies g.row.V.Denot). length l.copies) c.other.view_is in
    let room = ap (λ (l : LayerCopies g.row.V.Denot). l.room) c.self.view_is in
    omega (arith, ap length c.as_slice-2.ensures.value, ap length c.other.invariant.due_are, positions-few is_due 0 c.other.inside.copies.items, fits, room)
