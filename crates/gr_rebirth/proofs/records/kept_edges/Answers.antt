use Rattle.std.proofs.Common.{◌∙◌, ◌++◌, ◌∷◌, [], take, filter_map, ap, sym}
use Rattle.std.specs.List.{cons_option}
use Rattle.std.proofs.lemmas.List.{append-nil}
use Rattle.gr_base.proofs.Nth.{filter_map-more}
use Rattle.gr_log.specs.Directory.{edge_of}
use Rattle.gr_rebirth.proofs.records.kept_edges.Goals as goal
use Rattle.gr_rebirth.proofs.records.kept_edges.Goals.{in-Kept+in_ok-push, in_default}

pub loop-item-preserved : goal.loop-item-preserved
loop-item-preserved c =
    let xs = c.args.records.now in
    let i = c.loop-item.item-index in
    let before = filter_map edge_of (take i xs) in
    let more = filter_map-more edge_of xs i c.item-item.result c.loop-item-test.true in
    elim c.match-item.branch [
      | in-Kept+in_ok-push w ↦
          w.edges-is ∙ w.in_ok-push.ensures.ok ∙ ap (λ l. l ++ w.in-Kept.edge ∷ []) c.loop-item.invariant
          ∙ ap (λ o. before ++ cons_option o []) (sym (ap edge_of w.in-Kept.is) ∙ ap edge_of c.item-item.is) ∙ sym more
      | in_default w ↦
          w.edges-is ∙ c.loop-item.invariant ∙ sym (append-nil before)
          ∙ ap (λ o. before ++ cons_option o []) (sym (ap edge_of w.in_default.is) ∙ ap edge_of c.item-item.is) ∙ sym more
    ]
