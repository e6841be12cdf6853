use Rattle.std.proofs.Common.{◌≡◌, false, sym, arith}
use Rattle.gr_base.specs.Rising.{has}
use Rattle.gr_migrate.proofs.Included.{any-none, within}
use Rattle.gr_migrate.proofs.grant.meets.Goals as goal

pub returns : goal.returns
returns c = sym (any-none c.args.left c.args.right (within 64 c.args.right (λ q. has c.args.left q ≡ false) c.has-known.ensures.places.below (λ q lt on. c.loop-p.invariant q (omega arith) on)))
