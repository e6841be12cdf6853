use Rattle.std.proofs.Common.{ℕ, ◌<◌, arith, eq-eqb}
use Rattle.std.specs.Prelude.{◌==◌, slice_index}
use Rattle.std.proofs.lemmas.Bool.{ne_eqb}
use Rattle.gr_sum.proofs.SeedBits.{bit-fits, bit-word, bits-with, bits-without}
use Rattle.gr_sum.proofs.reach.seed_bits.Goals as goal
use Rattle.gr_sum.proofs.reach.seed_bits.Goals.{then-seeds-i, else-seeds-i}

pub overflow_add-bits : goal.overflow_add-bits
overflow_add-bits c =
    let f = λ (k : ℕ). slice_index c.args.seeds.now k == c.args.v in
    let lt : c.loop-i.i < 64 = omega arith in
    omega (arith, bit-word f c.loop-i.i lt, bit-fits f c.loop-i.i c.loop-i.bits c.loop-i.invariant lt)

pub loop-i-preserved : goal.loop-i-preserved
loop-i-preserved c =
    let f = λ (k : ℕ). slice_index c.args.seeds.now k == c.args.v in
    let lt : c.loop-i.i < 64 = omega arith in
    elim c.if-seeds-i.branch [
      | then-seeds-i w ↦ bits-with f c.loop-i.i c.loop-i.bits _ c.loop-i.invariant (eq-eqb _ _ w.if-seeds-i.true) (omega (arith, w.bits-is, bit-word f c.loop-i.i lt))
      | else-seeds-i w ↦ bits-without f c.loop-i.i c.loop-i.bits _ c.loop-i.invariant (ne_eqb _ _ w.if-seeds-i.false) w.bits-is
    ]
