use Rattle.std.proofs.Common.{◌≡◌, ◌∙◌, ℕ, ap, sym, not, arith}
use Rattle.std.specs.Prelude.{◌&&◌, ◌||◌}
use Rattle.std.specs.List.{filter}
use Rattle.gr_base.specs.Rising.{has}
use Rattle.gr_base.specs.Places.{below, with_place}
use Rattle.gr_copies.specs.Granter.{is_retiring}
use Rattle.gr_migrate.specs.Granted.{holders_after}
use Rattle.gr_migrate.proofs.Placed.{passing-with, passing-same}
use Rattle.gr_migrate.proofs.grant.new_holders.Goals as goal
use Rattle.gr_migrate.proofs.grant.new_holders.Goals.{then-has-is_retiring, else-has-is_retiring}

pub loop-p-preserved : goal.loop-p-preserved
loop-p-preserved c =
    let w = c.args.view.now in
    let p = c.loop-p.p in
    let test = λ (q : ℕ). (has c.args.holders q && not (is_retiring w q)) || has c.args.askers q in
    let tested : ((c.has.result && not c.is_retiring.result) || c.has-in-loop-p.result) ≡ test p = λ i. (c.has.ensures.test i && not (c.is_retiring.ensures i)) || c.has-in-loop-p.ensures.test i in
    elim c.if-has-is_retiring.branch [
      | then-has-is_retiring k ↦
          k.places-is ∙ (k.with-places.ensures ∙ (ap (λ ps. with_place ps p) c.loop-p.invariant ∙ passing-with test p (sym tested ∙ k.if-has-is_retiring.true)))
      | else-has-is_retiring k ↦
          k.places-is ∙ (c.loop-p.invariant ∙ passing-same test p (sym tested ∙ k.if-has-is_retiring.false))
    ]

pub returns : goal.returns
unfolding holders_after
returns c =
    let w = c.args.view.now in
    let end : c.loop-p.p ≡ w.places = omega arith in
    c.loop-p.invariant ∙ ap (λ n. filter (λ q. (has c.args.holders q && not (is_retiring w q)) || has c.args.askers q) (below n)) end
