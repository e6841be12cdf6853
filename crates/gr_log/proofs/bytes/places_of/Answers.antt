use Rattle.std.proofs.Common.{◌≡◌, ◌∙◌, ℕ, List, sym, ap, arith}
use Rattle.gr_base.specs.Places.{with_place}
use Rattle.gr_base.specs.PlaceBits.{is_bit}
use Rattle.gr_base.proofs.Bits.{bit-on, bit-off}
use Rattle.gr_base.proofs.PlaceSets.{members_to, members_to-with, members_to-same, members_to-end}
use Rattle.gr_log.proofs.bytes.places_of.Goals as goal
use Rattle.gr_log.proofs.bytes.places_of.Goals.{then-word-p-eq1, else-word-p-eq1}

pub loop-p-preserved : goal.loop-p-preserved
loop-p-preserved c = elim c.if-word-p-eq1.branch [
  | then-word-p-eq1 w ↦
      w.places-is ∙ w.with-places.ensures ∙ ap (λ (ps : List ℕ). with_place ps c.loop-p.p) c.loop-p.invariant
      ∙ sym (members_to-with (is_bit c.args.word) c.loop-p.p c.loop-p-test.true (bit-on c.args.word c.loop-p.p w.if-word-p-eq1.true))
  | else-word-p-eq1 w ↦ w.places-is ∙ c.loop-p.invariant ∙ sym (members_to-same (is_bit c.args.word) c.loop-p.p (bit-off c.args.word c.loop-p.p w.if-word-p-eq1.false))
]

pub returns : goal.returns
returns c =
    let end : c.loop-p.p ≡ 64 = omega arith in
    c.loop-p.invariant ∙ ap (members_to (is_bit c.args.word)) end ∙ members_to-end (is_bit c.args.word)
