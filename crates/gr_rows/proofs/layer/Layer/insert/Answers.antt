use Rattle.std.proofs.Common.{◌∙◌, ◌≤◌, ℕ, List, length, map, take, ltb, sym, ap, subst, arith}
use Rattle.std.specs.List.{insert}
use Rattle.std.proofs.lemmas.List.Sums.{prefix_len-le-length}
use Rattle.gr_base.specs.Rising.{RisesBy}
use Rattle.gr_base.proofs.Rising.{with-missing, with-rises}
use Rattle.gr_program.specs.declared.copy.VertexCopy.{VertexCopy}
use Rattle.gr_rows.proofs.Due.{kept-below}
use Rattle.gr_rows.proofs.Positions.{positions-rise, take-insert}
use Rattle.gr_rows.proofs.Vertices.{map-insert}
use Rattle.gr_rows.specs.Layer.{LayerCopies, is_due}
use Rattle.gr_rows.specs.Layers.{vertex_of}
use Rattle.gr_rows.specs.Positions.{positions_from}
use Rattle.gr_rows.proofs.layer.Layer.insert.Goals as goal

pub put_in-requires-clause-within : goal.put_in-requires-clause-within
put_in-requires-clause-within g c =
    let same = ap (λ (l : LayerCopies g.row.V.Denot). l.copies) c.self.view_is in
    omega (arith, ap length same, c.requires.goes.place, prefix_len-le-length (λ (k : VertexCopy g.row.V.Denot). ltb k.vertex c.args.copy.vertex) c.args.self.now.copies)

pub keep_below-requires-clause-rises : goal.keep_below-requires-clause-rises
keep_below-requires-clause-rises g c = subst (RisesBy (λ (n : ℕ). n)) (sym c.self.invariant.due_are) (positions-rise is_due 0 c.self.inside.copies.items)

pub push_due-requires-clause-below : goal.push_due-requires-clause-below
push_due-requires-clause-below g c =
    let xs = c.self.inside.copies.items in
    let at = c.args.at in
    let k = c.args.copy in
    let same = ap (λ (l : LayerCopies g.row.V.Denot). l.copies) c.self.view_is in
    let le : at ≤ length xs = omega (arith, ap length same, c.requires.goes.place, prefix_len-le-length (λ (k : VertexCopy g.row.V.Denot). ltb k.vertex c.args.copy.vertex) c.args.self.now.copies) in
    c.keep_below.ensures.items
    ∙ kept-below c.self.inside.due.items at xs (insert xs at k) c.self.invariant.due_are (take-insert xs at k le)
    ∙ ap (λ (l : List (VertexCopy g.row.V.Denot)). positions_from is_due 0 (take at l)) (sym (c.as_slice.ensures.value ∙ c.put_in.ensures.items))

pub returns-clause-copies : goal.returns-clause-copies
returns-clause-copies g c =
    let same = ap (λ (l : LayerCopies g.row.V.Denot). l.copies) c.self.view_is in
    let k = c.args.copy in
    c.put_in.ensures.items ∙ ap (λ (l : List (VertexCopy g.row.V.Denot)). insert l c.args.at k) same
    ∙ with-missing vertex_of k c.args.self.now.copies c.args.at k c.requires.goes.place (c.requires.goes.apart k)

pub returns-clause-rises : goal.returns-clause-rises
returns-clause-rises g c =
    let same = ap (λ (l : LayerCopies g.row.V.Denot). l.copies) c.self.view_is in
    subst (RisesBy vertex_of) (sym (returns-clause-copies g c)) (with-rises vertex_of c.args.copy c.args.self.now.copies (subst (RisesBy vertex_of) same c.self.invariant.rises))

pub invariant_of-self : goal.invariant_of-self
invariant_of-self g c =
    let k = c.args.copy in
    let at = c.args.at in
    record {
      rises = returns-clause-rises g c;
      few = omega (arith, ap (λ (l : LayerCopies g.row.V.Denot). length l.copies) c.self.view_is);
      vertices_are =
          c.put_in-2.ensures.items ∙ ap (λ (l : List ℕ). insert l at k.vertex) c.self.invariant.vertices_are
          ∙ sym (ap (map vertex_of) c.put_in.ensures.items ∙ map-insert vertex_of c.self.inside.copies.items at k);
      due_are = c.push_due.ensures.positions ∙ ap (positions_from is_due 0) c.as_slice.ensures.value;
      due_fit = omega (arith, ap (λ (l : LayerCopies g.row.V.Denot). length l.copies) c.self.view_is, ap (λ (l : LayerCopies g.row.V.Denot). l.room) c.self.view_is);
    }
