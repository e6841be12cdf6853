use Rattle.std.proofs.Common.{◌∙◌, ap, []}
use Rattle.std.proofs.lemmas.Result.{IfOk-weaker}
use Rattle.gr_base.specs.declared.records.NumberedEdge.{NumberedEdge}
use Rattle.gr_log.specs.Directory.{with_items, edges_in}
use Rattle.gr_rebirth.proofs.records.edges.Goals as goal

pub returns-clause-edges : goal.returns-clause-edges
unfolding edges_in
returns-clause-edges c =
    IfOk-weaker c.last_of_each.result _ _ (λ es e. e ∙ ap (λ xs. with_items (λ (x : NumberedEdge). x.number) xs []) (c.as_slice.ensures ∙ c.in_ok-kept.ensures)) c.last_of_each.ensures.last
