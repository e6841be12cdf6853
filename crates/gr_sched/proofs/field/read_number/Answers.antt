use Rattle.std.proofs.Common.{◌∙◌, sym}
use Rattle.gr_sched.proofs.Numbers.{number_of-whole, number_of-part, number_of-large, number_of-bad}
use Rattle.gr_sched.proofs.field.read_number.Goals as goal

pub returns-then-end-field : goal.returns-then-end-field
returns-then-end-field c = number_of-whole c.args.field.now c.in-Is.value c.in-Is.end (sym c.number.ensures ∙ c.in-Is.is) c.if-end-field.true

pub returns-else-end-field : goal.returns-else-end-field
returns-else-end-field c = number_of-part c.args.field.now c.in-Is.value c.in-Is.end (sym c.number.ensures ∙ c.in-Is.is) c.if-end-field.false

pub returns-in-TooLarge : goal.returns-in-TooLarge
returns-in-TooLarge c = number_of-large c.args.field.now _ (sym c.number.ensures ∙ c.in-TooLarge.is)

pub returns-in-NoDigits : goal.returns-in-NoDigits
returns-in-NoDigits c = number_of-bad c.args.field.now (sym c.number.ensures ∙ c.in-NoDigits.is) c.requires
