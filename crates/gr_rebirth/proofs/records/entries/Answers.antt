use Rattle.std.proofs.Common.{◌∙◌, ◌++◌, ◌∷◌, [], take, filter_map, ap, sym}
use Rattle.std.specs.List.{cons_option}
use Rattle.std.proofs.lemmas.List.{append-nil}
use Rattle.gr_base.proofs.Nth.{filter_map-more}
use Rattle.gr_log.specs.Directory.{entry_of}
use Rattle.gr_rebirth.proofs.records.entries.Goals as goal
use Rattle.gr_rebirth.proofs.records.entries.Goals.{in-Some+in_ok-push, in_default}

pub loop-item-preserved : goal.loop-item-preserved
loop-item-preserved c =
    let xs = c.args.records.now in
    let i = c.loop-item.item-index in
    let before = filter_map entry_of (take i xs) in
    let more = filter_map-more entry_of xs i c.item-item.result c.loop-item-test.true in
    elim c.match-of.branch [
      | in-Some+in_ok-push w ↦
          w.entries-is ∙ w.in_ok-push.ensures.ok ∙ ap (λ l. l ++ w.in-Some.entry ∷ []) c.loop-item.invariant
          ∙ ap (λ o. before ++ cons_option o []) (w.in-Some.ensures ∙ ap entry_of c.item-item.is) ∙ sym more
      | in_default w ↦
          w.entries-is ∙ c.loop-item.invariant ∙ sym (append-nil before)
          ∙ ap (λ o. before ++ cons_option o []) (w.in_default.ensures ∙ ap entry_of c.item-item.is) ∙ sym more
    ]
