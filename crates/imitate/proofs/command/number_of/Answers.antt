use Rattle.std.proofs.Common.{◌<◌, ◌^◌, ◌∙◌, sym, arith}
use Rattle.imitate.proofs.Numbers.{number-taken, number-left, number-large, number-none}
use Rattle.imitate.proofs.command.number_of.Goals as goal

pub returns-then-end-bytes-clause-is : goal.returns-then-end-bytes-clause-is
returns-then-end-bytes-clause-is c =
    rw (sym c.as_bytes-bytes.ensures.value)
    (number-taken c.args.least c.args.most c.as_bytes-bytes.result.now c.in-Is.value c.in-Is.end (sym c.number.ensures ∙ c.in-Is.is) c.if-end-bytes.true)

pub returns-else-end-bytes-clause-is : goal.returns-else-end-bytes-clause-is
returns-else-end-bytes-clause-is c =
    rw (sym c.as_bytes-bytes.ensures.value)
    (number-left c.args.least c.args.most c.as_bytes-bytes.result.now c.in-Is.value c.in-Is.end (sym c.number.ensures ∙ c.in-Is.is) c.if-end-bytes.false)

pub returns-in-TooLarge-clause-is : goal.returns-in-TooLarge-clause-is
returns-in-TooLarge-clause-is c =
    let small : c.args.most < 2 ^ 32 = omega arith in
    rw (sym c.as_bytes-bytes.ensures.value) (number-large c.args.least c.args.most c.as_bytes-bytes.result.now small c.in-TooLarge.field-0 (sym c.number.ensures ∙ c.in-TooLarge.is))

pub returns-in-NoDigits-clause-is : goal.returns-in-NoDigits-clause-is
returns-in-NoDigits-clause-is c =
    rw (sym c.as_bytes-bytes.ensures.value) (number-none c.args.least c.args.most c.as_bytes-bytes.result.now (sym c.number.ensures ∙ c.in-NoDigits.is))
