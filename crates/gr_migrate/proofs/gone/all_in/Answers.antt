use Rattle.std.proofs.Common.{◌≡◌, true, sym, arith}
use Rattle.gr_base.specs.Rising.{has}
use Rattle.gr_migrate.proofs.Included.{includes-all, within}
use Rattle.gr_migrate.proofs.gone.all_in.Goals as goal

pub returns : goal.returns
returns c = sym (includes-all c.args.places c.args.part (within 64 c.args.part (λ q. has c.args.places q ≡ true) c.has-known.ensures.places.below (λ q lt on. c.loop-p.invariant q (omega arith) on)))
