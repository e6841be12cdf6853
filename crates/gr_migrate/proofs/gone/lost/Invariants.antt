use Rattle.std.proofs.Common.{◌≡◌}
use Rattle.gr_base.specs.Rising.{has}
use Rattle.gr_log.specs.Directory.{rising}
use Rattle.gr_migrate.proofs.Placed.{parts}
use Rattle.gr_migrate.proofs.LostParts.{gone_at}
use Rattle.gr_migrate.proofs.gone.lost.Given as goal

abbrev pub invariant-loop-p : goal.invariant-loop-p
invariant-loop-p l = l.vertices.keys ≡ rising (parts (has l.dead) (gone_at l.dead l.logs) l.p)
