use Rattle.std.proofs.Common.{◌∙◌, ◌<◌, ◌≤◌, ℕ, List, Some, length, get_or, ap, sym, arith}
use Rattle.std.specs.Prelude.{slice_get}
use Rattle.std.specs.List.{filter}
use Rattle.gr_rows.proofs.Positions.{nth-position, nth-no_position}
use Rattle.gr_rows.proofs.Staged.{blank}
use Rattle.gr_rows.specs.Layer.{LayerCopies, is_due}
use Rattle.gr_rows.specs.Positions.{positions_from}
use Rattle.gr_rows.proofs.layer.Layer.due_at.Goals as goal

pub index-requires-then-i-len : goal.index-requires-then-i-len
index-requires-then-i-len g c =
    let xs = c.self.inside.copies.items in
    let at = c.index.result.now in
    let l : c.args.i < length (positions_from is_due 0 xs) = omega (arith, ap length c.self.invariant.due_are) in
    omega (arith, c.index.ensures ∙ ap (λ (l : List ℕ). get_or l c.args.i at) c.self.invariant.due_are, (nth-position is_due c.args.i at xs blank l).0)

pub returns-then-i-len-clause-copy : goal.returns-then-i-len-clause-copy
returns-then-i-len-clause-copy g c =
    let xs = c.self.inside.copies.items in
    let i = c.args.i in
    let at = c.index.result.now in
    let k = c.index-then-i-len.result.now in
    let l : c.args.i < length (positions_from is_due 0 xs) = omega (arith, ap length c.self.invariant.due_are) in
    let e = c.index.ensures ∙ ap (λ (l : List ℕ). get_or l i at) c.self.invariant.due_are in
    ap Some (c.index-then-i-len.ensures ∙ ap (λ (n : ℕ). get_or xs n k) e)
    ∙ sym (nth-position is_due i at xs k l).1
    ∙ ap (λ (l : LayerCopies g.row.V.Denot). slice_get (filter is_due l.copies) i) c.self.view_is

pub returns-else-i-len-clause-copy : goal.returns-else-i-len-clause-copy
returns-else-i-len-clause-copy g c =
    let xs = c.self.inside.copies.items in
    let i = c.args.i in
    let l : length (positions_from is_due 0 xs) ≤ i = omega (arith, ap length c.self.invariant.due_are) in
    sym (nth-no_position is_due i xs l) ∙ ap (λ (l : LayerCopies g.row.V.Denot). slice_get (filter is_due l.copies) i) c.self.view_is
