use Rattle.std.proofs.Common.{sym, arith}
use Rattle.std.proofs.lemmas.Bool.{eq-eqb}
use Rattle.std.proofs.lemmas.List.Sums.{position_or_len_is}
use Rattle.gr_text.specs.Lines.{is_line_end}
use Rattle.gr_text.proofs.line.line_len.Goals as goal

pub returns-then-b-eq10-clause-count : goal.returns-then-b-eq10-clause-count
returns-then-b-eq10-clause-count c =
    sym (position_or_len_is is_line_end c.args.text.now c.loop-i.i 0 (omega arith) c.loop-i.invariant (λ _. eq-eqb _ 10 c.if-b-eq10.true))

pub returns-clause-count : goal.returns-clause-count
returns-clause-count c = sym (position_or_len_is is_line_end c.args.text.now _ 0 (omega arith) (λ k lt. c.loop-i.invariant k (omega arith)) (λ past. absurd (omega arith)))
