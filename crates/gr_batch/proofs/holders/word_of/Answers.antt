use Rattle.std.proofs.Common.{◌≡◌, ◌∙◌, ℕ, sym, ap, arith}
use Rattle.std.proofs.lemmas.Nat.{one_shl}
use Rattle.gr_base.specs.Places.{word_of}
use Rattle.gr_base.specs.PlaceBits.{members_from}
use Rattle.gr_base.specs.Rising.{has}
use Rattle.gr_base.proofs.PlaceSets.{places-has}
use Rattle.gr_batch.proofs.Words.{word-fits, word-with, word-without}
use Rattle.gr_base.proofs.Members.{members_nil}
use Rattle.gr_batch.proofs.holders.word_of.Goals.{then-has, else-has}
use Rattle.gr_batch.proofs.holders.word_of.Goals as goal

pub loop-p-init : goal.loop-p-init
loop-p-init c = record { places = λ h. absurd (omega arith); so_far = sym (ap word_of (members_nil (has c.args.places) 0)) }

pub overflow_add-word : goal.overflow_add-word
overflow_add-word c =
    let p = c.loop-p.p in
    omega (arith, one_shl p 64 (omega arith), word-fits (has c.args.places) p (omega arith), c.loop-p.invariant.so_far)

pub loop-p-preserved : goal.loop-p-preserved
loop-p-preserved c =
    record {
      places = λ h. c.has.ensures.places;
      so_far = elim c.if-has.branch [
        | then-has w ↦ w.word-is ∙ word-with (has c.args.places) c.loop-p.p c.loop-p.word (omega arith) c.loop-p.invariant.so_far (sym c.has.ensures.test ∙ w.if-has.true)
        | else-has w ↦ w.word-is ∙ c.loop-p.invariant.so_far ∙ sym (word-without (has c.args.places) c.loop-p.p (sym c.has.ensures.test ∙ w.if-has.false))
      ];
    }

pub returns : goal.returns
returns c =
    let e : c.loop-p.p ≡ 64 = omega arith in
    c.loop-p.invariant.so_far ∙ ap (λ (n : ℕ). word_of (members_from (has c.args.places) 0 n)) e ∙ ap word_of (places-has c.args.places (c.loop-p.invariant.places (omega arith)))
