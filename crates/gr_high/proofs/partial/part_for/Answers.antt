use Rattle.std.proofs.Common.{◌∙◌, ◌<◌, Some, length, sym, ap, arith}
use Rattle.std.proofs.lemmas.List.{get_or_default}
use Rattle.gr_base.proofs.Rising.{found-at, missing-at}
use Rattle.gr_high.proofs.Selected.{missing-past}
use Rattle.gr_high.proofs.partial.part_for.Goals as goal
use Rattle.gr_high.proofs.partial.part_for.Goals.{else-at-parts-via-then-at-parts+else-parts-at, else-at-parts-via-else-at-parts}

pub returns-then-parts-at : goal.returns-then-parts-at
returns-then-parts-at g c =
    let xs = c.args.parts.now in
    let at = c.place_of-at.result in
    let d = c.index-parts-at.result in
    let lt : at < length xs = omega arith in
    ap Some (c.index-parts-at-then-parts-at.is ∙ get_or_default xs at c.index-parts-at-then-parts-at.result d lt)
    ∙ sym (found-at (λ x. x.vertex) c.args.v xs at d c.requires (sym c.place_of-at.ensures) lt c.if-parts-at.true).0

pub returns-else-at-parts : goal.returns-else-at-parts
returns-else-at-parts g c =
    let xs = c.args.parts.now in
    let at = c.place_of-at.result in
    elim c.else-at-parts.branch [
      | else-at-parts-via-then-at-parts+else-parts-at w ↦
          sym (missing-at (λ x. x.vertex) c.args.v xs at w.index-parts-at.result c.requires (sym c.place_of-at.ensures) (λ l q. w.if-parts-at.false q)).0
      | else-at-parts-via-else-at-parts w ↦
          sym (missing-past (λ x. x.vertex) c.args.v xs at c.requires (sym c.place_of-at.ensures) (omega arith))
    ]
