use Rattle.std.proofs.Common.{◌≡◌, ◌∙◌, ℕ, true, false, List, sym, ap, arith}
use Rattle.gr_base.specs.Rising.{has}
use Rattle.gr_base.specs.Places.{with_place}
use Rattle.gr_base.specs.PlaceBits.{is_bit, members_from}
use Rattle.gr_base.proofs.Bits.{places-set}
use Rattle.gr_base.proofs.PlaceSets.{members_to, members_to-with, members_to-same, members_to-end, places-has}
use Rattle.gr_log.proofs.bytes.word_of.Goals as goal
use Rattle.gr_log.proofs.bytes.word_of.Goals.{then-has, else-has}

pub loop-p-preserved : goal.loop-p-preserved
loop-p-preserved c = record {
  places = λ more. c.has.ensures.places;
  word = elim c.if-has.branch [
    | then-has w ↦
        let on : has c.args.places c.loop-p.p ≡ true = cc in
        ap (λ (n : ℕ). members_from (is_bit n) 0 64) w.word-is ∙ places-set c.loop-p.word c.loop-p.p c.loop-p-test.true
        ∙ ap (λ (ps : List ℕ). with_place ps c.loop-p.p) c.loop-p.invariant.word ∙ sym (members_to-with (has c.args.places) c.loop-p.p c.loop-p-test.true on)
    | else-has w ↦
        let off : has c.args.places c.loop-p.p ≡ false = cc in
        ap (λ (n : ℕ). members_from (is_bit n) 0 64) w.word-is ∙ c.loop-p.invariant.word ∙ sym (members_to-same (has c.args.places) c.loop-p.p off)
  ];
}

pub returns : goal.returns
returns c =
    let end : c.loop-p.p ≡ 64 = omega arith in
    c.loop-p.invariant.word ∙ ap (members_to (has c.args.places)) end ∙ members_to-end (has c.args.places)
    ∙ places-has c.args.places (c.loop-p.invariant.places (omega arith))
