use Rattle.std.proofs.Common.{◌∙◌, Some, length, ap, sym, arith}
use Rattle.std.proofs.lemmas.Bool.{eqb-true}
use Rattle.gr_log.proofs.Reading.{at-empty, at-held, at-held_short, at-kept, at-kept_short, at-other}
use Rattle.gr_log.proofs.bytes.first_record.Goals as goal

pub returns-then-is_empty : goal.returns-then-is_empty
returns-then-is_empty c = sym (at-empty c.args.bytes.now (eqb-true (length c.args.bytes.now) 0 (sym c.is_empty.ensures ∙ c.if-is_empty.true)))

pub returns-then-bytes-lt22 : goal.returns-then-bytes-lt22
returns-then-bytes-lt22 c = sym (at-held_short c.args.bytes.now c.if-bytes-eq-HELD.true c.if-bytes-lt22.true)

pub returns-then-bytes-eq-HELD : goal.returns-then-bytes-eq-HELD
returns-then-bytes-eq-HELD c = ap Some c.held.ensures ∙ sym (at-held c.args.bytes.now c.if-bytes-eq-HELD.true (omega arith))

pub returns-then-bytes-lt17 : goal.returns-then-bytes-lt17
returns-then-bytes-lt17 c = sym (at-kept_short c.args.bytes.now c.if-bytes-eq-KEPT.true c.if-bytes-lt17.true)

pub returns-then-bytes-eq-KEPT : goal.returns-then-bytes-eq-KEPT
returns-then-bytes-eq-KEPT c = ap Some c.kept.ensures ∙ sym (at-kept c.args.bytes.now c.if-bytes-eq-KEPT.true (omega arith))

pub returns : goal.returns
returns c = sym (at-other c.args.bytes.now c.if-bytes-eq-HELD.false c.if-bytes-eq-KEPT.false)
