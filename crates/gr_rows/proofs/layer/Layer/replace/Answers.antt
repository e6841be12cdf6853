use Rattle.std.proofs.Common.{◌∙◌, ◌≤◌, ℕ, List, set, take, sym, ap, subst, arith}
use Rattle.std.proofs.lemmas.List.{take-set-le}
use Rattle.gr_base.specs.Rising.{RisesBy, with_item}
use Rattle.gr_base.proofs.Rising.{with-found, with-rises}
use Rattle.gr_program.specs.declared.copy.VertexCopy.{VertexCopy}
use Rattle.gr_rows.proofs.Due.{beq-same, kept-below}
use Rattle.gr_rows.proofs.Positions.{positions-rise, positions-set_same}
use Rattle.gr_rows.proofs.Vertices.{map-set_same}
use Rattle.gr_rows.specs.Layer.{LayerCopies, IsAt, is_due}
use Rattle.gr_rows.specs.Layers.{vertex_of}
use Rattle.gr_rows.specs.Positions.{positions_from}
use Rattle.gr_rows.proofs.layer.Layer.replace.Goals as goal

pub returns-then-was_due-copy-clause-copies : goal.returns-then-was_due-copy-clause-copies
returns-then-was_due-copy-clause-copies g c =
    let same = ap (λ (l : LayerCopies g.row.V.Denot). l.copies) c.self.view_is in
    let k = c.args.copy in
    let is = subst (IsAt k.vertex c.args.at) (sym same) c.requires in
    with-found vertex_of k c.self.inside.copies.items c.args.at k is.place is.within (is.is k) ∙ ap (with_item vertex_of k) same

pub returns-then-was_due-copy-clause-rises : goal.returns-then-was_due-copy-clause-rises
returns-then-was_due-copy-clause-rises g c =
    let same = ap (λ (l : LayerCopies g.row.V.Denot). l.copies) c.self.view_is in
    subst (RisesBy vertex_of) (sym (returns-then-was_due-copy-clause-copies g c)) (with-rises vertex_of c.args.copy c.args.self.now.copies (subst (RisesBy vertex_of) same c.self.invariant.rises))

pub invariant_of-self : goal.invariant_of-self
invariant_of-self g c =
    let same = ap (λ (l : LayerCopies g.row.V.Denot). l.copies) c.self.view_is in
    let k = c.args.copy in
    let at = c.args.at in
    let xs = c.self.inside.copies.items in
    let d = c.index.result.now in
    let is = subst (IsAt k.vertex at) (sym same) c.requires in
    record {
      rises = returns-then-was_due-copy-clause-rises g c;
      few = omega arith;
      vertices_are = c.self.invariant.vertices_are ∙ sym (map-set_same vertex_of xs at k k is.within (sym (is.is k)));
      due_are = c.self.invariant.due_are ∙ sym (positions-set_same is_due 0 at xs k d (sym (beq-same c.index.result.now.due k.due c.if-was_due-copy.true) ∙ ap is_due c.index.ensures));
      due_fit = omega arith;
    }

pub keep_below-requires-clause-rises : goal.keep_below-requires-clause-rises
keep_below-requires-clause-rises g c = subst (RisesBy (λ (n : ℕ). n)) (sym c.self.invariant.due_are) (positions-rise is_due 0 c.self.inside.copies.items)

pub push_due-requires-clause-below : goal.push_due-requires-clause-below
push_due-requires-clause-below g c =
    let xs = c.self.inside.copies.items in
    let at = c.args.at in
    let le : at ≤ at = omega arith in
    c.keep_below.ensures.items
    ∙ kept-below c.self.inside.due.items at xs (set xs at c.args.copy) c.self.invariant.due_are (take-set-le at xs at c.args.copy le)
    ∙ ap (λ (l : List (VertexCopy g.row.V.Denot)). positions_from is_due 0 (take at l)) (sym c.as_slice.ensures.value)

pub returns-clause-copies : goal.returns-clause-copies
returns-clause-copies g c =
    let same = ap (λ (l : LayerCopies g.row.V.Denot). l.copies) c.self.view_is in
    let k = c.args.copy in
    let is = subst (IsAt k.vertex c.args.at) (sym same) c.requires in
    with-found vertex_of k c.self.inside.copies.items c.args.at k is.place is.within (is.is k) ∙ ap (with_item vertex_of k) same

pub returns-clause-rises : goal.returns-clause-rises
returns-clause-rises g c =
    let same = ap (λ (l : LayerCopies g.row.V.Denot). l.copies) c.self.view_is in
    subst (RisesBy vertex_of) (sym (returns-clause-copies g c)) (with-rises vertex_of c.args.copy c.args.self.now.copies (subst (RisesBy vertex_of) same c.self.invariant.rises))

pub invariant_of-self-2 : goal.invariant_of-self-2
invariant_of-self-2 g c =
    let same = ap (λ (l : LayerCopies g.row.V.Denot). l.copies) c.self.view_is in
    let k = c.args.copy in
    let at = c.args.at in
    let xs = c.self.inside.copies.items in
    let is = subst (IsAt k.vertex at) (sym same) c.requires in
    record {
      rises = returns-clause-rises g c;
      few = omega arith;
      vertices_are = c.self.invariant.vertices_are ∙ sym (map-set_same vertex_of xs at k k is.within (sym (is.is k)));
      due_are = c.push_due.ensures.positions ∙ ap (positions_from is_due 0) c.as_slice.ensures.value;
      due_fit = omega arith;
    }
