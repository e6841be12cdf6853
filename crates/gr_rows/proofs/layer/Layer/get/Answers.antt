use Rattle.std.proofs.Common.{◌∙◌, Some, List, get_or, sym, ap}
use Rattle.gr_base.proofs.Rising.{found-at, missing-at}
use Rattle.gr_program.specs.declared.copy.VertexCopy.{VertexCopy}
use Rattle.gr_rows.proofs.Staged.{blank}
use Rattle.gr_rows.specs.Layer.{LayerCopies}
use Rattle.gr_rows.specs.Layers.{vertex_of}
use Rattle.gr_rows.proofs.layer.Layer.get.Goals as goal

pub returns-in-Ok : goal.returns-in-Ok
returns-in-Ok g c =
    let xs = c.args.self.now.copies in
    let at = c.in-Ok.at in
    let d = c.index.result.now in
    let is = c.in-Ok.ensures.found in
    let same = ap (λ (l : LayerCopies g.row.V.Denot). l.copies) c.self.view_is in
    ap Some (c.index.ensures ∙ ap (λ (l : List (VertexCopy g.row.V.Denot)). get_or l at d) same)
    ∙ sym (found-at vertex_of c.args.v xs at d c.in-Ok.ensures.rises is.place is.within (is.is d)).0

pub returns-in-Err : goal.returns-in-Err
returns-in-Err g c =
    let is = c.in-Err.ensures.missing in
    sym (missing-at vertex_of c.args.v c.args.self.now.copies c.in-Err.field-0 blank c.in-Err.ensures.rises is.place (λ l. is.apart _ l)).0
