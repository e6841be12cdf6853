use Rattle.std.proofs.Common.{◌<◌, ◌≤◌, ◌-◌, get_or, length, arith}
use Rattle.gr_numbered.proofs.Between.{prefix-between}
use Rattle.gr_base.specs.declared.records.NumberedEdge.{NumberedEdge}
use Rattle.gr_arcs.specs.End.{vertex_at}
use Rattle.gr_arcs.proofs.index.divides.Goals as goal
use Rattle.gr_arcs.proofs.index.divides.Goals.{else-at-gt0-via-then-at-gt0+else-from-bound, else-at-gt0-via-else-at-gt0, else-at-index-via-then-at-index+else-from-bound-2, else-at-index-via-else-at-index}

abbrev none : NumberedEdge
none = record { number = 0; edge = record { src = 0; dst = 0; weight = 0 } }

pub returns : goal.returns
returns c _ =
    let key = λ (e : NumberedEdge). vertex_at c.args.end e.edge in
    let xs = c.args.index.now in
    let at = c.args.at in
    let lower : 0 < at → key (get_or xs (at - 1) none) < c.args.bound = λ l. elim c.else-at-gt0.branch [
      | else-at-gt0-via-then-at-gt0+else-from-bound w ↦ omega (arith, w.of.ensures, w.from.ensures, w.if-from-bound.false)
      | else-at-gt0-via-else-at-gt0 w ↦ omega (arith, w.if-at-gt0.false)
    ] in
    let upper : at < length xs → c.args.bound ≤ key (get_or xs at none) = λ l. elim c.else-at-index.branch [
      | else-at-index-via-then-at-index+else-from-bound-2 w ↦ omega (arith, w.of-then-at-index.ensures, w.from-then-at-index.ensures, w.if-from-bound-2.false)
      | else-at-index-via-else-at-index w ↦ omega (arith, w.if-at-index.false)
    ] in
    prefix-between key c.args.bound xs at none c.requires.sorted c.requires.within lower upper
