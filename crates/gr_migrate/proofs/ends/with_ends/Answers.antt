use Rattle.std.proofs.Common.{◌∙◌, ◌++◌, ◌∷◌, [], ap, sym, take, filter_map}
use Rattle.std.specs.List.{cons_option}
use Rattle.std.proofs.lemmas.List.{append-nil}
use Rattle.gr_base.specs.declared.records.NumberedEdge.{NumberedEdge}
use Rattle.gr_base.proofs.Nth.{filter_map-more}
use Rattle.gr_migrate.specs.Ends.{ends_among}
use Rattle.gr_migrate.proofs.ends.with_ends.Goals as goal
use Rattle.gr_migrate.proofs.ends.with_ends.Goals.{in-Some+in_ok-push, in_default}

abbrev none : NumberedEdge
none = record { number = 0; edge = record { src = 0; dst = 0; weight = 0 } }

pub loop-arc-preserved : goal.loop-arc-preserved
loop-arc-preserved c =
    let xs = c.args.arcs.now in
    let i = c.loop-arc.arc-index in
    let h = ends_among c.args.entries.now in
    let more = filter_map-more h xs i none c.loop-arc-test.true in
    elim c.match-ends_of.branch [
      | in-Some+in_ok-push w ↦
          w.edges-is ∙ (w.in_ok-push.ensures.ok ∙ (ap (λ l. l ++ w.in-Some.ends ∷ []) c.loop-arc.invariant
          ∙ (ap (λ o. filter_map h (take i xs) ++ cons_option o []) w.in-Some.ensures ∙ sym more)))
      | in_default w ↦
          w.edges-is ∙ (c.loop-arc.invariant ∙ (sym (append-nil (filter_map h (take i xs)))
          ∙ (ap (λ o. filter_map h (take i xs) ++ cons_option o []) w.in_default.ensures ∙ sym more)))
    ]
