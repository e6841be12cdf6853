use Rattle.std.proofs.Common.{◌-◌, length, get_or, take, drop, arith}
use Rattle.gr_batch.proofs.Numbers.{first-rest, last-front, more-front, no-more, more-fits}
use Rattle.gr_batch.proofs.number.+groups_at.Goals as goal

pub returns-then-first-lt128-clause-found : goal.returns-then-first-lt128-clause-found
returns-then-first-lt128-clause-found t c =
    last-front c.args.more (c.args.more - 1) (get_or c.args.bytes.now 0 0) c.args.bytes.now (take (length c.args.bytes.now - 1) (drop 1 c.args.bytes.now)) (omega arith) (first-rest c.args.bytes.now c.in-len1-up.len_at_least) c.if-first-lt128.true

pub returns-in_err-high-in-len1-up-clause-absent : goal.returns-in_err-high-in-len1-up-clause-absent
returns-in_err-high-in-len1-up-clause-absent t c =
    rw c.from_residual.ensures
    (no-more c.args.more (c.args.more - 1) (get_or c.args.bytes.now 0 0) c.args.bytes.now (take (length c.args.bytes.now - 1) (drop 1 c.args.bytes.now)) (omega arith) (first-rest c.args.bytes.now c.in-len1-up.len_at_least) c.if-first-lt128.false c.in_err-high-in-len1-up.ensures.absent)

pub overflow_mul-result : goal.overflow_mul-result
overflow_mul-result t c = omega (arith, more-fits (c.args.more - 1) c.in_ok-high-in-len1-up.high (omega arith) c.in_ok-high-in-len1-up.ensures.found.fits)

pub overflow_add-result : goal.overflow_add-result
overflow_add-result t c = omega (arith, more-fits (c.args.more - 1) c.in_ok-high-in-len1-up.high (omega arith) c.in_ok-high-in-len1-up.ensures.found.fits, c.type_inv.bytes 0)

pub returns-else-high-eq0-clause-found : goal.returns-else-high-eq0-clause-found
returns-else-high-eq0-clause-found t c =
    more-front c.args.more (c.args.more - 1) (get_or c.args.bytes.now 0 0) c.args.bytes.now (take (length c.args.bytes.now - 1) (drop 1 c.args.bytes.now)) (omega arith) (first-rest c.args.bytes.now c.in-len1-up.len_at_least) c.in_ok-high-in-len1-up.high c.in_ok-high-in-len1-up.after.now
    c.if-first-lt128.false (omega (arith, c.type_inv.bytes 0)) c.if-high-eq0.false c.in_ok-high-in-len1-up.ensures.found
