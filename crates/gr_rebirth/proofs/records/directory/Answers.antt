use Rattle.std.proofs.Common.{◌∙◌, ap, []}
use Rattle.std.proofs.lemmas.Result.{IfOk-weaker}
use Rattle.gr_log.specs.Directory.{Entry, with_items, directory_in}
use Rattle.gr_rebirth.proofs.records.directory.Goals as goal

pub returns-clause-entries : goal.returns-clause-entries
unfolding directory_in
returns-clause-entries c =
    IfOk-weaker c.last_of_each.result _ _ (λ es e. e ∙ ap (λ xs. with_items (λ (x : Entry). x.vertex) xs []) (c.as_slice.ensures ∙ c.in_ok-entries.ensures)) c.last_of_each.ensures.last
