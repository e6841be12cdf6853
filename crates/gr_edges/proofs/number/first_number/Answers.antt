use Rattle.std.proofs.Common.{◌≡◌, ◌+◌, ◌*◌, ◌-◌, length, get_or, take, sym, ◌∙◌, arith}
use Rattle.std.specs.Char.{IsAsciiDigit}
use Rattle.std.specs.Str.Parse.{digits_value}
use Rattle.gr_edges.proofs.Leading.{leading-len, leading-number, digits-after, value-after}
use Rattle.gr_edges.proofs.number.first_number.Goals as goal

pub returns-then-is_space-clause-len : goal.returns-then-is_space-clause-len
returns-then-is_space-clause-len c = leading-len c.args.text.now c.loop-i.i (omega arith) c.loop-i.invariant.digits (λ _. sym c.is_space.ensures ∙ c.if-is_space.true)

pub returns-then-is_space-clause-number : goal.returns-then-is_space-clause-number
returns-then-is_space-clause-number c = leading-number c.args.text.now c.loop-i.i (omega arith) c.loop-i.invariant.digits c.loop-i.value c.loop-i.invariant.value c.loop-i.invariant.small

pub overflow_mul-next : goal.overflow_mul-next
overflow_mul-next c = omega (arith, c.loop-i.invariant.small, c.from.ensures)

pub overflow_add-next : goal.overflow_add-next
overflow_add-next c = omega (arith, c.loop-i.invariant.small, c.from.ensures, c.from-in-loop-i.ensures, c.if-b-lt48.false, c.if-b-gt57.false)

pub loop-i-preserved : goal.loop-i-preserved
loop-i-preserved c =
    let text = c.args.text.now in
    let i = c.loop-i.i in
    let here : IsAsciiDigit (get_or text i 0) = (c.if-b-lt48.false, c.if-b-gt57.false) in
    let after : digits_value 10 (take (i + 1) text) ≡ c.loop-i.value * 10 + (get_or text i 0 - 48) = value-after text i (omega arith) c.loop-i.invariant.digits c.loop-i.value c.loop-i.invariant.value c.loop-i-test.true here in
    record {
      value = omega (arith, after, c.from.ensures, c.from-in-loop-i.ensures);
      small = omega (arith, c.if-next-from.false, c.from-in-loop-i-2.ensures);
      digits = digits-after text i (omega arith) c.loop-i.invariant.digits here;
    }

pub returns-clause-len : goal.returns-clause-len
returns-clause-len c =
    let i : c.loop-i.i ≡ length c.args.text.now = omega arith in
    sym i ∙ leading-len c.args.text.now c.loop-i.i (omega arith) c.loop-i.invariant.digits (λ past. absurd (omega arith))

pub returns-clause-number : goal.returns-clause-number
returns-clause-number c =
    let i : c.loop-i.i ≡ length c.args.text.now = omega arith in
    rw (← i) (leading-number c.args.text.now c.loop-i.i (omega arith) c.loop-i.invariant.digits c.loop-i.value c.loop-i.invariant.value c.loop-i.invariant.small)
