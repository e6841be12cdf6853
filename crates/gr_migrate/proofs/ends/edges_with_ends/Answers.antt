use Rattle.std.proofs.Common.{◌∙◌, ap}
use Rattle.std.specs.List.{filter_map}
use Rattle.std.proofs.lemmas.Result.{IfOk-weaker}
use Rattle.gr_log.specs.Directory.{directory_in, kept_edges}
use Rattle.gr_rules.specs.Taken.{edges_with_ends}
use Rattle.gr_migrate.specs.Ends.{ends_among}
use Rattle.gr_migrate.proofs.ends.edges_with_ends.Goals as goal

pub returns : goal.returns
unfolding edges_with_ends
returns c =
    let entries = c.as_slice-4.ensures ∙ (c.in_ok-entries.ensures.entries ∙ ap directory_in (c.as_slice.ensures ∙ c.in_ok-records.ensures)) in
    let kept = c.as_slice-3.ensures ∙ (c.in_ok-kept.ensures ∙ ap kept_edges (c.as_slice-2.ensures ∙ c.in_ok-records.ensures)) in
    IfOk-weaker c.with_ends.result _ _ (λ es e. e ∙ (λ i. filter_map (ends_among (entries i)) (kept i))) c.with_ends.ensures
