use Rattle.std.proofs.Common.{◌≡◌, ◌∙◌, ◌<◌, ◌≤◌, ℕ, List, Vec, Global, length, get_or, ap, arith}
use Rattle.std.specs.Vec.{vec_len, vec_capacity}
use Rattle.std.proofs.lemmas.List.{same_lists, drop_all}
use Rattle.gr_base.specs.Rising.{has}
use Rattle.gr_rows.proofs.Agree.{copied_more, copied_past}
use Rattle.gr_rows.proofs.layer.copy_at.Goals as goal
use Rattle.gr_rows.proofs.layer.copy_at.Goals.{then-place-from, else-place-from}

pub loop-at-preserved : goal.loop-at-preserved
loop-at-preserved g c =
    let xs = c.loop-at.items.items in
    let ys = c.args.from.now in
    let ns = c.args.positions.now in
    let j = c.loop-at.at-index in
    let lj : j < length ns = omega arith in
    let len : length xs ≡ length ys = omega arith in
    elim c.if-place-from.branch [
      | then-place-from w ↦
          record {
            same = λ i d l h.
                ap (λ (v : Vec g.row.T.Denot Global). get_or v.items i d) w.items-is
                ∙ copied_more xs ys ns j w.index-from-place.result lj w.if-place-from.true len w.index-from-place.is c.loop-at.invariant.same i d l h;
            len = omega (arith, ap (vec_len {X = g.row.T.Denot}) w.items-is);
            capacity = omega (arith, ap (vec_capacity {X = g.row.T.Denot}) w.items-is);
          }
      | else-place-from w ↦
          record {
            same = λ i d l h.
                ap (λ (v : Vec g.row.T.Denot Global). get_or v.items i d) w.items-is
                ∙ copied_past xs ys ns j lj w.if-place-from.false c.loop-at.invariant.same i d l h;
            len = omega (arith, ap (vec_len {X = g.row.T.Denot}) w.items-is);
            capacity = omega (arith, ap (vec_capacity {X = g.row.T.Denot}) w.items-is);
          }
    ]

pub returns-clause-items : goal.returns-clause-items
returns-clause-items g c =
    let xs = c.loop-at.items.items in
    let ys = c.args.from.now in
    let ns = c.args.positions.now in
    let j = c.loop-at.at-index in
    let n : length ns ≤ j = omega arith in
    let len : length xs ≡ length ys = omega arith in
    same_lists xs ys len (λ k d h. let l : k < length ys = omega arith in c.loop-at.invariant.same k d l (ap (λ (t : List ℕ). has t k) (drop_all j ns n)))
