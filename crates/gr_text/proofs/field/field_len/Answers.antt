use Rattle.std.proofs.Common.{sym, ◌∙◌, arith}
use Rattle.std.proofs.lemmas.List.Sums.{position_or_len_is}
use Rattle.gr_text.specs.Fields.{is_blank}
use Rattle.gr_text.proofs.field.field_len.Goals as goal

pub returns-then-is_space-clause-count : goal.returns-then-is_space-clause-count
returns-then-is_space-clause-count c =
    sym (position_or_len_is is_blank c.args.text.now c.loop-i.i 0 (omega arith) c.loop-i.invariant (λ _. sym c.is_space.ensures ∙ c.if-is_space.true))

pub returns-clause-count : goal.returns-clause-count
returns-clause-count c = sym (position_or_len_is is_blank c.args.text.now _ 0 (omega arith) (λ k lt. c.loop-i.invariant k (omega arith)) (λ past. absurd (omega arith)))
