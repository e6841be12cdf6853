use Rattle.std.proofs.Common.{◌∙◌, ◌<◌, length, slice_index, slice_index_or, IsTrue, if◌then◌else◌, ap, refl, arith}
use Rattle.std.proofs.lemmas.List.{take_all, get_or-map, length-set}
use Rattle.std.proofs.lemmas.List.Elements.{All-set}
use Rattle.gr_base.specs.Rising.{has}
use Rattle.gr_uncut.proofs.Sums.{put-more}
use Rattle.gr_uncut.proofs.gather.put_values.Goals as goal

pub loop-i-init : goal.loop-i-init
loop-i-init g c = record { long = refl; kept = λ t old new. old; values = λ x y reads is. reads }

pub loop-i-preserved : goal.loop-i-preserved
loop-i-preserved g c =
    let ks = c.args.active.now in
    let i = c.loop-i.i in
    let k = slice_index ks i in
    let inv = c.loop-i.invariant in
    let low : k < length c.loop-i.values = omega (arith, c.requires.active i 0 c.loop-i-test.true, inv.long) in
    record {
      long = ap length c.set.ensures ∙ length-set c.loop-i.values k c.index-new-i.result ∙ inv.long;
      kept = λ t old new. rw c.set.ensures (All-set (λ x. IsTrue (t x)) c.loop-i.values k c.index-new-i.result (rw (← c.index-new-i.is) at (new i c.index-new-i.result (rw c.requires.long c.loop-i-test.true))) (inv.kept t old new));
      values = λ x y reads is.
          let read = c.index-new-i.is ∙ ap (λ l. slice_index_or l i c.index-new-i.result) is ∙ get_or-map y ks i 0 c.index-new-i.result c.loop-i-test.true in
          rw c.set.ensures (put-more x y ks i k c.index-new-i.result c.loop-i.values c.loop-i-test.true refl low read (inv.values x y reads is));
    }

pub returns-clause-values : goal.returns-clause-values
returns-clause-values g c = λ x y reads is k d lt.
    let all = take_all c.loop-i.i c.args.active.now c.loop-i-test.false in
    c.loop-i.invariant.values x y reads is k d lt ∙ ap (λ l. if has l k then y k else x k) all
