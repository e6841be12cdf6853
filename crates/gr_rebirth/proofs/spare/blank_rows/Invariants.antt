use Rattle.std.proofs.Common.{◌≡◌, take, map}
use Rattle.gr_rules.specs.Rows.{blank_copy}
use Rattle.gr_rebirth.proofs.spare.blank_rows.Given as goal

abbrev pub invariant-loop-entry : goal.invariant-loop-entry
invariant-loop-entry g l = l.rows.pending ≡ take l.entry-index (map blank_copy l.directory)
