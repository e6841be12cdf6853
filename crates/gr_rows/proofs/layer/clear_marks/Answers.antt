use Rattle.std.proofs.Common.{◌∙◌, ◌<◌, ◌≤◌, ◌+◌, [], length, get_or, set, map, drop, refl, ap, sym, arith}
use Rattle.std.proofs.lemmas.List.{drop_more, drop_all}
use Rattle.gr_program.specs.declared.copy.VertexCopy.{VertexCopy}
use Rattle.gr_rows.proofs.Due.{with_mark}
use Rattle.gr_rows.proofs.Positions.{positions-set_first, map-none_pass}
use Rattle.gr_rows.proofs.Staged.{blank}
use Rattle.gr_rows.proofs.Vertices.{map-set_same}
use Rattle.gr_rows.specs.Layer.{is_due}
use Rattle.gr_rows.specs.Layers.{copy_with_mark}
use Rattle.gr_rows.specs.Positions.{positions_from}
use Rattle.gr_rows.proofs.layer.clear_marks.Goals as goal

pub index_mut-copy-requires : goal.index_mut-copy-requires
index_mut-copy-requires g c =
    let due = c.args.due.now in
    let i = c.loop-at.at-index in
    let lt : i < length due = omega arith in
    let q = positions-set_first is_due (copy_with_mark []) (λ (x : VertexCopy g.row.V.Denot). refl) (get_or due i 0) c.loop-at.copies.items (drop (i + 1) due) blank (c.loop-at.invariant.left ∙ drop_more due i 0 lt) in
    omega (arith, q.0)

pub loop-at-preserved : goal.loop-at-preserved
loop-at-preserved g c =
    let due = c.args.due.now in
    let i = c.loop-at.at-index in
    let at = get_or due i 0 in
    let xs = c.loop-at.copies.items in
    let k = c.index_mut-copy.result.now in
    let lt : i < length due = omega arith in
    let q = positions-set_first is_due (copy_with_mark []) (λ (x : VertexCopy g.row.V.Denot). refl) at xs (drop (i + 1) due) k (c.loop-at.invariant.left ∙ drop_more due i 0 lt) in
    record {
      left = ap (λ (y : VertexCopy g.row.V.Denot). positions_from is_due 0 (set xs at (copy_with_mark [] y))) c.index_mut-copy.ensures.value ∙ q.1;
      same =
          ap (λ (y : VertexCopy g.row.V.Denot). map (copy_with_mark []) (set xs at (copy_with_mark [] y))) c.index_mut-copy.ensures.value
          ∙ map-set_same (copy_with_mark []) xs at (copy_with_mark [] (get_or xs at k)) k q.0 refl
          ∙ c.loop-at.invariant.same;
      len = omega arith;
      capacity = omega arith;
    }

pub returns-clause-items : goal.returns-clause-items
returns-clause-items g c =
    let due = c.args.due.now in
    let i = c.loop-at.at-index in
    let xs = c.loop-at.copies.items in
    let n : length due ≤ i = omega arith in
    sym (map-none_pass is_due (copy_with_mark []) (λ (x : VertexCopy g.row.V.Denot) e. ap (λ b. with_mark b x) (sym e)) 0 xs (c.loop-at.invariant.left ∙ drop_all i due n))
    ∙ c.loop-at.invariant.same
