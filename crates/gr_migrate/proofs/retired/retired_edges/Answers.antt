use Rattle.std.proofs.Common.{◌≡◌, ◌∙◌, ◌++◌, List, ap, sym, subst, arith}
use Rattle.std.specs.List.{All}
use Rattle.gr_copies.specs.Granter.{is_retiring}
use Rattle.gr_rules.specs.Taken.{Ends}
use Rattle.gr_migrate.specs.Ends.{KnowsMasters}
use Rattle.gr_migrate.proofs.Known.{retired-known}
use Rattle.gr_migrate.proofs.Placed.{parts, parts-with, parts-same}
use Rattle.gr_migrate.proofs.RetiredParts.{edges_at, retired-parts}
use Rattle.gr_migrate.proofs.retired.retired_edges.Goals as goal
use Rattle.gr_migrate.proofs.retired.retired_edges.Goals.{then-is_retiring+in_ok-edges+in_ok-extend_from_slice, else-is_retiring}

pub loop-r-preserved : goal.loop-r-preserved
loop-r-preserved c =
    let retires = is_retiring c.args.view.now in
    let part = edges_at c.args.logs.now in
    let r = c.loop-r.r in
    elim c.if-is_retiring.branch [
      | then-is_retiring+in_ok-edges+in_ok-extend_from_slice k ↦
          k.retired-is ∙ (k.in_ok-extend_from_slice.ensures.ok ∙ (ap (λ (es : List Ends). c.loop-r.retired ++ es) (k.as_slice.ensures ∙ k.in_ok-edges.ensures)
          ∙ (ap (λ (l : List Ends). l ++ part r) c.loop-r.invariant ∙ sym (parts-with retires part r (sym c.is_retiring.ensures ∙ k.if-is_retiring.true)))))
      | else-is_retiring k ↦ k.retired-is ∙ (c.loop-r.invariant ∙ sym (parts-same retires part r (sym c.is_retiring.ensures ∙ k.if-is_retiring.false)))
    ]

pub returns-clause-edges : goal.returns-clause-edges
returns-clause-edges c =
    let w = c.args.view.now in
    let end : c.loop-r.r ≡ w.places = omega arith in
    c.loop-r.invariant ∙ (ap (parts (is_retiring w) (edges_at c.args.logs.now)) end ∙ retired-parts w c.args.logs.now)

pub returns-clause-masters : goal.returns-clause-masters
returns-clause-masters c = subst (All KnowsMasters) (sym (returns-clause-edges c)) (retired-known c.args.view.now c.args.logs.now c.requires.masters)
