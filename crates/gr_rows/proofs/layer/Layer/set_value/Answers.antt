use Rattle.std.proofs.Common.{◌∙◌, List, map, get_or, sym, ap, subst, arith}
use Rattle.std.proofs.lemmas.List.{get_or-set_other}
use Rattle.gr_program.specs.declared.copy.VertexCopy.{VertexCopy}
use Rattle.std.specs.Prelude.{IsSome}
use Rattle.std.proofs.lemmas.Bool.{false≢true}
use Rattle.gr_base.specs.Rising.{RisesBy}
use Rattle.gr_base.proofs.Rising.{missing-at}
use Rattle.gr_rows.proofs.Staged.{blank, with_value, set-with_value, valued-rises, valued-vertices, valued-positions}
use Rattle.gr_rows.specs.Layer.{LayerCopies, IsAt, is_due}
use Rattle.gr_rows.specs.Layers.{vertex_of, copy_with_value}
use Rattle.gr_rows.specs.Positions.{positions_from}
use Rattle.gr_rows.proofs.layer.Layer.set_value.Goals as goal

pub returns-in-Ok-clause-value : goal.returns-in-Ok-clause-value
returns-in-Ok-clause-value g c =
    let same = ap (λ (l : LayerCopies g.row.V.Denot). l.copies) c.self.view_is in
    let is = subst (IsAt c.args.v c.in-Ok.at) (sym same) c.in-Ok.ensures.found in
    set-with_value c.args.v c.in-Ok.at c.args.value c.self.inside.copies.items c.index_mut-copy.result.now c.self.invariant.rises is c.index_mut-copy.ensures.value
    ∙ ap (map (copy_with_value c.args.v c.args.value)) same

pub returns-in-Ok-clause-rises : goal.returns-in-Ok-clause-rises
returns-in-Ok-clause-rises g c = subst (RisesBy vertex_of) (sym (returns-in-Ok-clause-value g c)) (valued-rises c.args.v c.args.value c.args.self.now.copies c.in-Ok.ensures.rises)

pub invariant_of-self : goal.invariant_of-self
invariant_of-self g c =
    let same = ap (λ (l : LayerCopies g.row.V.Denot). l.copies) c.self.view_is in
    let xs = c.self.inside.copies.items in
    let is = subst (IsAt c.args.v c.in-Ok.at) (sym same) c.in-Ok.ensures.found in
    let set_is = set-with_value c.args.v c.in-Ok.at c.args.value xs c.index_mut-copy.result.now c.self.invariant.rises is c.index_mut-copy.ensures.value in
    record {
      rises = subst (RisesBy vertex_of) (sym set_is) (valued-rises c.args.v c.args.value xs c.self.invariant.rises);
      few = omega arith;
      due_are = c.self.invariant.due_are ∙ sym (ap (positions_from is_due 0) set_is ∙ valued-positions c.args.v c.args.value xs);
      due_fit = omega arith;
      vertices_are = c.self.invariant.vertices_are ∙ sym (ap (map vertex_of) set_is ∙ valued-vertices c.args.v c.args.value xs);
    }

pub returns-in-Err-clause-value : goal.returns-in-Err-clause-value
returns-in-Err-clause-value g c =
    let is = c.in-Err.ensures.missing in
    absurd (false≢true (subst (λ o. IsSome o) (missing-at vertex_of c.args.v c.args.self.now.copies c.in-Err.field-0 blank c.in-Err.ensures.rises is.place (λ l. is.apart _ l)).0 c.requires.known))

pub returns-in-Ok-clause-vertices : goal.returns-in-Ok-clause-vertices
returns-in-Ok-clause-vertices g c = ap (map vertex_of) (returns-in-Ok-clause-value g c) ∙ valued-vertices c.args.v c.args.value c.args.self.now.copies

pub returns-in-Ok-clause-elsewhere : goal.returns-in-Ok-clause-elsewhere
returns-in-Ok-clause-elsewhere g c =
    let same = ap (λ (l : LayerCopies g.row.V.Denot). l.copies) c.self.view_is in
    λ i d ne. get_or-set_other c.self.inside.copies.items c.in-Ok.at i (with_value c.args.value c.index_mut-copy.result.now) d ne ∙ ap (λ (t : List (VertexCopy g.row.V.Denot)). get_or t i d) same
