use Rattle.std.proofs.Common.{◌≡◌, take}
use Rattle.gr_base.specs.Rising.{includes}
use Rattle.gr_log.specs.Directory.{Entry}
use Rattle.gr_migrate.proofs.Picked.{gathered}
use Rattle.gr_migrate.proofs.gone.add_lost.Given as goal

abbrev pub invariant-loop-entry : goal.invariant-loop-entry
invariant-loop-entry l = l.vertices.keys ≡ gathered (λ (e : Entry). includes l.fn.dead e.holders) (λ (e : Entry). e.vertex) l.fn.vertices.keys (take l.entry-index l.entries)
