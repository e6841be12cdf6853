use Rattle.std.proofs.Common.{◌∙◌, [], map, refl, ap, sym, subst, arith}
use Rattle.gr_base.specs.Rising.{RisesBy}
use Rattle.gr_base.proofs.Rising.{mapped-rises}
use Rattle.gr_rows.proofs.Positions.{positions-map_none}
use Rattle.gr_rows.proofs.Vertices.{map-map_same}
use Rattle.gr_rows.specs.Layer.{is_due}
use Rattle.gr_rows.specs.Layers.{vertex_of, copy_with_mark}
use Rattle.gr_rows.specs.Positions.{positions_from}
use Rattle.gr_rows.proofs.layer.Layer.clear_due.Goals as goal

pub returns-clause-rises : goal.returns-clause-rises
returns-clause-rises g c = subst (RisesBy vertex_of) (sym c.clear_marks.ensures.items) (mapped-rises vertex_of (copy_with_mark []) (λ k. refl) c.self.inside.copies.items c.self.invariant.rises)

pub invariant_of-self : goal.invariant_of-self
invariant_of-self g c =
    let xs = c.self.inside.copies.items in
    let e = c.clear_marks.ensures.items in
    record {
      rises = returns-clause-rises g c;
      few = omega arith;
      vertices_are = c.self.invariant.vertices_are ∙ sym (ap (map vertex_of) e ∙ map-map_same vertex_of (copy_with_mark []) (λ k. refl) xs);
      due_are = c.clear.ensures.items ∙ sym (ap (positions_from is_due 0) e ∙ positions-map_none is_due (copy_with_mark []) (λ k. refl) 0 xs);
      due_fit = omega arith;
    }
