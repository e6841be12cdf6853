use Rattle.std.proofs.Common.{ap, ◌∙◌}
use Rattle.gr_base.specs.Rising.{has}
use Rattle.gr_log.specs.Directory.{Entry}
use Rattle.gr_copies.proofs.Granting.{member-below}
use Rattle.gr_migrate.proofs.masters.master_after.Goals as goal

pub is_retiring-requires : goal.is_retiring-requires
is_retiring-requires c =
    member-below c.entry.inside.holders c.entry.inside.master 64 (ap (λ (e : Entry). has e.holders e.master) c.entry.view_is ∙ c.requires) c.has-known.ensures.places.below
