use Rattle.std.proofs.Common.{◌∙◌, ◌<◌, ◌++◌, ◌∷◌, [], ℕ, List, Vec, Global, length, take, ap, sym, arith}
use Rattle.std.specs.Vec.{vec_capacity}
use Rattle.std.proofs.lemmas.List.{length-take-le, append-nil}
use Rattle.gr_rows.proofs.Positions.{positions-few, positions_more, positions_same}
use Rattle.gr_rows.specs.Layer.{is_due}
use Rattle.gr_rows.specs.Positions.{positions_from}
use Rattle.gr_rows.proofs.layer.push_due.Goals as goal
use Rattle.gr_rows.proofs.layer.push_due.Goals.{then-copies-i, else-copies-i}

pub push_in-requires : goal.push_in-requires
push_in-requires g c =
    let xs = c.args.copies.now in
    let i = c.loop-i.i in
    omega (arith, ap length c.loop-i.invariant.below, positions-few is_due 0 (take i xs), length-take-le i xs (omega arith))

pub loop-i-preserved : goal.loop-i-preserved
loop-i-preserved g c =
    let xs = c.args.copies.now in
    let i = c.loop-i.i in
    let d = c.index-copies-i.result in
    let lt : i < length xs = omega arith in
    elim c.if-copies-i.branch [
      | then-copies-i w ↦
          record {
            below =
                ap (λ (v : Vec ℕ Global). v.items) w.positions-is ∙ w.push_in.ensures.items ∙ ap (λ (l : List ℕ). l ++ i ∷ []) c.loop-i.invariant.below
                ∙ sym (positions_more is_due xs i d lt w.if-copies-i.true);
            capacity = omega (arith, ap (vec_capacity {X = ℕ}) w.positions-is);
          }
      | else-copies-i w ↦
          record {
            below =
                ap (λ (v : Vec ℕ Global). v.items) w.positions-is ∙ c.loop-i.invariant.below
                ∙ sym (positions_same is_due xs i d lt w.if-copies-i.false ∙ append-nil (positions_from is_due 0 (take i xs)));
            capacity = omega (arith, ap (vec_capacity {X = ℕ}) w.positions-is);
          }
    ]
