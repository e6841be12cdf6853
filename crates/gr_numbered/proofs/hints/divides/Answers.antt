use Rattle.std.proofs.Common.{◌<◌, ◌≤◌, ◌-◌, get_or, length, arith}
use Rattle.gr_base.proofs.Rising.{not-falling}
use Rattle.gr_numbered.proofs.Between.{prefix-between}
use Rattle.gr_numbered.proofs.hints.divides.Goals as goal
use Rattle.gr_numbered.proofs.hints.divides.Goals.{else-at-gt0-via-then-at-gt0+else-numbers-at, else-at-gt0-via-else-at-gt0, else-at-numbers-via-then-at-numbers+else-numbers-at-2, else-at-numbers-via-else-at-numbers}

pub returns : goal.returns
returns c _ =
    let xs = c.args.numbers.now in
    let at = c.args.at in
    let lower : 0 < at → get_or xs (at - 1) 0 < c.args.v = λ l. elim c.else-at-gt0.branch [
      | else-at-gt0-via-then-at-gt0+else-numbers-at w ↦ omega (arith, w.if-numbers-at.false)
      | else-at-gt0-via-else-at-gt0 w ↦ omega (arith, w.if-at-gt0.false)
    ] in
    let upper : at < length xs → c.args.v ≤ get_or xs at 0 = λ l. elim c.else-at-numbers.branch [
      | else-at-numbers-via-then-at-numbers+else-numbers-at-2 w ↦ omega (arith, w.if-numbers-at-2.false)
      | else-at-numbers-via-else-at-numbers w ↦ omega (arith, w.if-at-numbers.false)
    ] in
    prefix-between (λ n. n) c.args.v xs at 0 (not-falling (λ n. n) xs c.requires.rises) c.requires.within lower upper
