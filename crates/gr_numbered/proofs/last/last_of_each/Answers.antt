use Rattle.std.proofs.Common.{◌≡◌, ◌∙◌, [], map, take, sym, ap, subst, refl}
use Rattle.std.specs.Ordering.{nat_cmp}
use Rattle.std.specs.BTreeMap.{insert_entry, values}
use Rattle.std.specs.Map.{values_of}
use Rattle.std.proofs.lemmas.Result.{IfOk-at_ok}
use Rattle.std.proofs.lemmas.List.{take_all}
use Rattle.std.proofs.lemmas.List.Sums.{fold_more}
use Rattle.std.proofs.lemmas.Iterator.{items_from_collect}
use Rattle.std.proofs.lemmas.Iterator.Consumers.{YieldsList-from_rest}
use Rattle.gr_base.specs.Rising.{RisesBy, with_item}
use Rattle.gr_base.proofs.Rising.{rises-nil}
use Rattle.gr_lists.proofs.Chosen.{map-undone}
use Rattle.gr_lists.proofs.Items.{items-rise}
use Rattle.gr_log.specs.Directory.{with_items}
use Rattle.gr_numbered.proofs.LastOfEach.{numbered, insert_entry-numbered}
use Rattle.gr_numbered.proofs.last.last_of_each.Goals as goal

pub loop-item-preserved : goal.loop-item-preserved
loop-item-preserved g c =
    let key = g.T.Numbered.number_of in
    let xs = c.args.items.now in
    let i = c.loop-item.item-index in
    let x = c.item-item.result in
    let before = with_items key (take i xs) [] in
    c.in_ok-insert.ensures.entries
    ∙ ap (λ n. insert_entry nat_cmp c.loop-item.last.entries n x) c.number.ensures
    ∙ ap (λ es. insert_entry nat_cmp es (key x) x) c.loop-item.invariant
    ∙ insert_entry-numbered key x before
    ∙ ap (λ y. map (numbered key) (with_item key y before)) c.item-item.is
    ∙ ap (map (numbered key)) (sym (fold_more (λ ys y. with_item key y ys) [] xs i x c.loop-item-test.true))

pub returns-clause-last : goal.returns-clause-last
returns-clause-last g c =
    let key = g.T.Numbered.number_of in
    let xs = c.args.items.now in
    let all = with_items key xs [] in
    let end : c.loop-item.last.entries ≡ map (numbered key) all = c.loop-item.invariant ∙ ap (λ l. map (numbered key) (with_items key l [])) (take_all c.loop-item.item-index xs c.loop-item-test.false) in
    let taken = items_from_collect c.collect.result c.collect.ensures.ran (YieldsList-from_rest (values c.loop-item.last) c.into_values.ensures.rest) in
    c.from_vec.ensures
    ∙ IfOk-at_ok (λ v. v.items ≡ values c.loop-item.last) c.in_ok-kept.was taken
    ∙ ap values_of end
    ∙ map-undone (numbered key) (λ p. p.1) (λ x. refl) all

pub returns-clause-rise : goal.returns-clause-rise
returns-clause-rise g c =
    let key = g.T.Numbered.number_of in
    subst (RisesBy key) (sym (returns-clause-last g c)) (items-rise key c.args.items.now [] (rises-nil key))
