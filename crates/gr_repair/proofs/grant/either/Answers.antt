use Rattle.std.proofs.Common.{◌≡◌, ◌∙◌, ℕ, true, false, List, filter, sym, ap, arith}
use Rattle.std.specs.Prelude.{◌||◌}
use Rattle.gr_base.specs.Rising.{has}
use Rattle.gr_base.specs.Places.{below, with_place}
use Rattle.gr_repair.proofs.Below.{filter-below_on, filter-below_off}
use Rattle.gr_repair.proofs.grant.either.Goals as goal
use Rattle.gr_repair.proofs.grant.either.Goals.{then-has, else-has}

pub loop-p-preserved : goal.loop-p-preserved
loop-p-preserved c =
    let test = λ (q : ℕ). has c.args.left q || has c.args.right q in
    elim c.if-has.branch [
      | then-has w ↦
          let on : (has c.args.left c.loop-p.p || has c.args.right c.loop-p.p) ≡ true = cc in
          w.both-is ∙ w.with-both.ensures ∙ ap (λ (ps : List ℕ). with_place ps c.loop-p.p) c.loop-p.invariant ∙ sym (filter-below_on test c.loop-p.p on)
      | else-has w ↦
          let off : (has c.args.left c.loop-p.p || has c.args.right c.loop-p.p) ≡ false = cc in
          w.both-is ∙ c.loop-p.invariant ∙ sym (filter-below_off test c.loop-p.p off)
    ]

pub returns : goal.returns
returns c =
    let end : c.loop-p.p ≡ c.args.places = omega arith in
    c.loop-p.invariant ∙ ap (λ n. filter (λ q. has c.args.left q || has c.args.right q) (below n)) end
