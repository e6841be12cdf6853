use Rattle.std.proofs.Common.{◌≡◌, ◌∙◌, ◌<◌, ℕ, true, List, [], ◌∷◌, ◌++◌, length, map, refl, ap, sym, subst, arith}
use Rattle.std.specs.List.{All}
use Rattle.std.proofs.lemmas.List.{length_push}
use Rattle.gr_base.specs.Rising.{RisesBy}
use Rattle.gr_program.specs.declared.copy.VertexCopy.{VertexCopy}
use Rattle.gr_rows.proofs.Due.{with_mark, set-made_due, made_due-rises, made_due-vertices, made_due-missing, positions-made_due, positions-made_due-few}
use Rattle.gr_rows.proofs.Staged.{blank}
use Rattle.gr_rows.specs.Layer.{LayerCopies, IsAt, is_due, copy_made_due}
use Rattle.gr_rows.specs.Layers.{vertex_of}
use Rattle.gr_rows.specs.Positions.{positions_from}
use Rattle.gr_rows.proofs.layer.Layer.make_due.Goals as goal

pub push_in-requires : goal.push_in-requires
push_in-requires g c =
    let v = c.args.v in
    let at = c.in-Ok.at in
    let xs = c.self.inside.copies.items in
    let same = ap (λ (l : LayerCopies g.row.V.Denot). l.copies) c.self.view_is in
    let is = subst (IsAt v at) (sym same) c.in-Ok.ensures.found in
    let above = subst (λ (l : List (VertexCopy g.row.V.Denot)). All (λ (k : VertexCopy g.row.V.Denot). k.due ≡ true → k.vertex < v) l) (sym same) c.requires in
    omega (arith, ap length c.self.invariant.due_are, length_push (positions_from is_due 0 xs) at, positions-made_due-few v at xs (with_mark true c.index_mut-found_copy.result.now) refl c.self.invariant.rises is above)

pub returns-in-Ok-clause-copies : goal.returns-in-Ok-clause-copies
returns-in-Ok-clause-copies g c =
    let same = ap (λ (l : LayerCopies g.row.V.Denot). l.copies) c.self.view_is in
    let is = subst (IsAt c.args.v c.in-Ok.at) (sym same) c.in-Ok.ensures.found in
    set-made_due c.args.v c.in-Ok.at c.self.inside.copies.items c.index_mut-found_copy.result.now c.self.invariant.rises is c.index_mut-found_copy.ensures.value
    ∙ ap (map (copy_made_due c.args.v)) same

pub returns-in-Ok-clause-rises : goal.returns-in-Ok-clause-rises
returns-in-Ok-clause-rises g c = subst (RisesBy vertex_of) (sym (returns-in-Ok-clause-copies g c)) (made_due-rises c.args.v c.args.self.now.copies c.in-Ok.ensures.rises)

pub invariant_of-self : goal.invariant_of-self
invariant_of-self g c =
    let v = c.args.v in
    let at = c.in-Ok.at in
    let xs = c.self.inside.copies.items in
    let k = c.index_mut-found_copy.result.now in
    let same = ap (λ (l : LayerCopies g.row.V.Denot). l.copies) c.self.view_is in
    let is = subst (IsAt v at) (sym same) c.in-Ok.ensures.found in
    let above = subst (λ (l : List (VertexCopy g.row.V.Denot)). All (λ (k : VertexCopy g.row.V.Denot). k.due ≡ true → k.vertex < v) l) (sym same) c.requires in
    let set_is = set-made_due v at xs k c.self.invariant.rises is c.index_mut-found_copy.ensures.value in
    record {
      rises = subst (RisesBy vertex_of) (sym set_is) (made_due-rises v xs c.self.invariant.rises);
      few = omega arith;
      vertices_are = c.self.invariant.vertices_are ∙ sym (ap (map vertex_of) set_is ∙ made_due-vertices v xs);
      due_are =
          c.push_in.ensures.items ∙ ap (λ (l : List ℕ). l ++ at ∷ []) c.self.invariant.due_are
          ∙ sym (positions-made_due v at xs (with_mark true k) refl c.self.invariant.rises is above);
      due_fit = omega arith;
    }

pub returns-in-Err-clause-copies : goal.returns-in-Err-clause-copies
returns-in-Err-clause-copies g c = sym (made_due-missing c.args.v c.in-Err.field-0 c.args.self.now.copies blank c.in-Err.ensures.rises c.in-Err.ensures.missing)
