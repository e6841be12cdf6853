use Rattle.std.proofs.Common.{◌≡◌, ◌<◌, ◌∙◌, ◌&&◌, [], true, false, nat_lt, length, take, sym, ap, arith, ltb-true, ltb-false}
use Rattle.std.proofs.lemmas.Bool.{and_parts}
use Rattle.std.proofs.lemmas.List.{take_all}
use Rattle.std.proofs.lemmas.List.Elements.{recursion_from_All}
use Rattle.gr_base.specs.Rising.{has}
use Rattle.gr_base.specs.Places.{with_place}
use Rattle.gr_lists.proofs.Tests.{by_test}
use Rattle.gr_play.proofs.FirstPlaces.{firsts, firsts-start, firsts-same, firsts-all, take-firsts_more, take-firsts_full, length-firsts_more}
use Rattle.gr_play.proofs.canonical.first_places.Goals as goal
use Rattle.gr_play.proofs.canonical.first_places.Goals.{then-has-left, else-has-left}

pub loop-p-init : goal.loop-p-init
loop-p-init c =
    let start = firsts-start c.args.places in
    (c.none-first.ensures ∙ sym (ap (take c.args.count) start ∙ take_all c.args.count [] (omega arith)), let none = ap length start in omega (arith, none))

pub loop-p-preserved : goal.loop-p-preserved
loop-p-preserved c =
    let p = c.loop-p.p in
    let ps = c.args.places in
    let n = c.args.count in
    let rise = c.has.ensures.places.rise in
    let I = c.loop-p.invariant in
    let left = I.1 in
    elim c.if-has-left.branch [
      | then-has-left w ↦
          let both = and_parts c.has.result (nat_lt 0 c.loop-p.left) w.if-has-left.true in
          let m : has ps p ≡ true = sym c.has.ensures.test ∙ both.0 in
          let some = ltb-true 0 c.loop-p.left both.1 in
          let more = length-firsts_more n p ps rise m in
          let fewer = w.left-is in
          (w.first-is ∙ (w.with-first.ensures ∙ (ap (λ qs. with_place qs p) I.0 ∙ take-firsts_more n p ps rise m (omega (arith, some, left)))), omega (arith, some, left, more, fewer))
      | else-has-left w ↦
          let same = w.left-is in
          by_test (has ps p)
          (λ m.
          let off : nat_lt 0 c.loop-p.left ≡ false = sym (ap (λ b. b && nat_lt 0 c.loop-p.left) (c.has.ensures.test ∙ m)) ∙ w.if-has-left.false in
          let none = ltb-false 0 c.loop-p.left off in
          let more = length-firsts_more n p ps rise m in
          (w.first-is ∙ (I.0 ∙ take-firsts_full n p ps rise m (omega (arith, none, left))), omega (arith, none, left, more, same)))
          (λ m. let f = firsts-same p ps m in (w.first-is ∙ (I.0 ∙ ap (take n) (sym f)), let k = ap length f in omega (arith, left, k, same)))
    ]

pub returns : goal.returns
returns c =
    let ps = c.args.places in
    let end : c.loop-p.p ≡ 64 = omega (arith, c.loop-p-test.false) in
    c.loop-p.invariant.0 ∙ (ap (λ k. take c.args.count (firsts k ps)) end ∙ ap (take c.args.count) (firsts-all 64 ps (recursion_from_All (λ q. q < 64) ps c.has-known.ensures.places.below)))
