use Rattle.std.proofs.Common.{◌≡◌, ◌∙◌, ◌<◌, true, List, length, get_or, map, ap, sym, subst, arith}
use Rattle.std.specs.List.{All}
use Rattle.gr_program.specs.declared.copy.VertexCopy.{VertexCopy}
use Rattle.gr_rows.proofs.Due.{marks_more, marks_below}
use Rattle.gr_rows.specs.Layer.{copy_made_due}
use Rattle.gr_rows.proofs.layer.Layer.mark_due.Goals as goal

pub make_due-requires : goal.make_due-requires
make_due-requires g c =
    let due = c.args.due.now in
    let j = c.loop-v.v-index in
    let lt : j < length due = omega arith in
    subst (λ (l : List (VertexCopy g.row.V.Denot)). All (λ (k : VertexCopy g.row.V.Denot). k.due ≡ true → k.vertex < get_or due j 0) l) (sym c.loop-v.invariant.copies) (marks_below due j 0 c.args.self.now.copies c.requires.rise lt)

pub loop-v-preserved : goal.loop-v-preserved
loop-v-preserved g c =
    let due = c.args.due.now in
    let j = c.loop-v.v-index in
    let lt : j < length due = omega arith in
    record {
      copies = c.make_due.ensures.copies ∙ ap (map (copy_made_due (get_or due j 0))) c.loop-v.invariant.copies ∙ marks_more due j 0 c.args.self.now.copies lt;
      rises = c.make_due.ensures.rises;
      len = omega arith;
      room = omega arith;
    }
