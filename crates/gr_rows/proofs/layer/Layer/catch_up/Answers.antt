use Rattle.std.proofs.Common.{◌∙◌, ◌<◌, List, length, get_or, map, ap, sym, subst, arith}
use Rattle.gr_base.specs.Rising.{RisesBy}
use Rattle.gr_program.specs.declared.copy.VertexCopy.{VertexCopy}
use Rattle.gr_rows.proofs.Agree.{agree-length}
use Rattle.gr_rows.proofs.Positions.{positions-few}
use Rattle.gr_rows.specs.Layer.{LayerCopies, is_due}
use Rattle.gr_rows.specs.Layers.{vertex_of}
use Rattle.gr_rows.specs.Positions.{positions_from}
use Rattle.gr_rows.proofs.layer.Layer.catch_up.Goals as goal

pub copy_at-requires-clause-len : goal.copy_at-requires-clause-len
copy_at-requires-clause-len g c =
    let own = ap (λ (l : LayerCopies g.row.V.Denot). length l.copies) c.self.view_is in
    let others = ap (λ (l : LayerCopies g.row.V.Denot). length l.copies) c.other.view_is in
    omega (arith, own, others, ap length c.as_slice.ensures.value, agree-length c.args.positions.now c.args.self.now.copies c.args.other.now.copies c.requires.agree)

pub copy_at-requires-clause-same : goal.copy_at-requires-clause-same
copy_at-requires-clause-same g c =
    let own = ap (λ (l : LayerCopies g.row.V.Denot). l.copies) c.self.view_is in
    let others = ap (λ (l : LayerCopies g.row.V.Denot). l.copies) c.other.view_is in
    λ i d l h.
    let li : i < length c.args.other.now.copies = omega (arith, ap length others, ap length c.as_slice.ensures.value) in
    ap (λ (t : List (VertexCopy g.row.V.Denot)). get_or t i d) own ∙ c.requires.agree.same i d li h
    ∙ ap (λ (t : List (VertexCopy g.row.V.Denot)). get_or t i d) (sym (c.as_slice.ensures.value ∙ others))

pub copy_over-requires : goal.copy_over-requires
copy_over-requires g c =
    let fits = ap (λ (l : LayerCopies g.row.V.Denot). length l.copies) c.other.view_is in
    let room = ap (λ (l : LayerCopies g.row.V.Denot). l.room) c.self.view_is in
    omega (arith, ap length c.as_slice-due.ensures.value, ap length c.other.invariant.due_are, positions-few is_due 0 c.other.inside.copies.items, fits, room, c.requires.room)

pub returns-clause-rises : goal.returns-clause-rises
returns-clause-rises g c = subst (RisesBy vertex_of) (sym (c.copy_at.ensures.items ∙ c.as_slice.ensures.value)) c.other.invariant.rises

pub invariant_of-self : goal.invariant_of-self
invariant_of-self g c =
    let own = ap (λ (l : LayerCopies g.row.V.Denot). l.copies) c.self.view_is in
    let others = ap (λ (l : LayerCopies g.row.V.Denot). l.copies) c.other.view_is in
    let new = c.copy_at.ensures.items ∙ c.as_slice.ensures.value in
    record {
      rises = returns-clause-rises g c;
      few = omega (arith, ap length c.as_slice.ensures.value, ap length others);
      vertices_are = c.self.invariant.vertices_are ∙ ap (map vertex_of) own ∙ c.requires.agree.vertices ∙ ap (map vertex_of) (sym (new ∙ others));
      due_are = c.copy_over.ensures.items ∙ c.as_slice-due.ensures.value ∙ c.other.invariant.due_are ∙ ap (positions_from is_due 0) (sym new);
      due_fit = omega (arith, ap (λ (l : LayerCopies g.row.V.Denot). l.room) c.self.view_is, ap length c.as_slice.ensures.value, ap length others, c.requires.room);
    }
