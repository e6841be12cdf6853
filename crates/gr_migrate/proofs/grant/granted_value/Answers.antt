use Rattle.gr_copies.proofs.Granting.{member-below}
use Rattle.gr_migrate.proofs.grant.granted_value.Goals as goal

pub has-requires : goal.has-requires
has-requires g c = member-below c.args.copy.now.holders c.args.copy.now.master 64 c.requires c.has-known.ensures.places.below
