use Rattle.std.proofs.Common.{◌∙◌, map, ap}
use Rattle.gr_log.specs.Directory.{directory_in}
use Rattle.gr_rules.specs.Rows.{blank_copy, blank_rows}
use Rattle.gr_rebirth.proofs.spare.blank.Goals as goal

pub returns-clause-copies : goal.returns-clause-copies
unfolding blank_rows
returns-clause-copies g c =
    c.in_ok-rows.ensures.stable
    ∙ ap (map (blank_copy {V = g.row.V.Denot})) (c.as_slice-3.ensures ∙ c.in_ok-directory.ensures.entries ∙ ap directory_in (c.as_slice.ensures ∙ c.in_ok-records.ensures))

pub returns-clause-pending_copies : goal.returns-clause-pending_copies
unfolding blank_rows
returns-clause-pending_copies g c =
    c.in_ok-rows.ensures.pending
    ∙ ap (map (blank_copy {V = g.row.V.Denot})) (c.as_slice-3.ensures ∙ c.in_ok-directory.ensures.entries ∙ ap directory_in (c.as_slice.ensures ∙ c.in_ok-records.ensures))
