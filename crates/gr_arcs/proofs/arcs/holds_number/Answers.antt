use Rattle.std.proofs.Common.{◌<◌, length, sym, ap, arith}
use Rattle.std.specs.Prelude.{is_some}
use Rattle.gr_base.proofs.Rising.{found-at, missing-at}
use Rattle.gr_base.specs.declared.records.NumberedEdge.{NumberedEdge}
use Rattle.gr_arcs.specs.Layers.{number_of}
use Rattle.gr_arcs.proofs.arcs.holds_number.Goals as goal
use Rattle.gr_arcs.proofs.arcs.holds_number.Goals.{else-at-edges-via-then-at-edges+else-edges-at, else-at-edges-via-else-at-edges}

abbrev none : NumberedEdge
none = record { number = 0; edge = record { src = 0; dst = 0; weight = 0 } }

pub returns-then-edges-at : goal.returns-then-edges-at
returns-then-edges-at c =
    let xs = c.args.edges.now in
    let at = c.place_of-at.result in
    let lt : at < length xs = omega arith in
    sym (ap is_some (found-at number_of c.args.number xs at none c.requires (sym c.place_of-at.ensures) lt c.if-edges-at.true).0)

pub returns-else-at-edges : goal.returns-else-at-edges
returns-else-at-edges c =
    let xs = c.args.edges.now in
    let at = c.place_of-at.result in
    sym (ap is_some (elim c.else-at-edges.branch [
      | else-at-edges-via-then-at-edges+else-edges-at w ↦
          (missing-at number_of c.args.number xs at none c.requires (sym c.place_of-at.ensures) (λ l q. w.if-edges-at.false q)).0
      | else-at-edges-via-else-at-edges w ↦
          (missing-at number_of c.args.number xs at none c.requires (sym c.place_of-at.ensures) (λ l q. omega arith)).0
    ]))
