use Rattle.std.proofs.Common.{◌≡◌, take}
use Rattle.gr_migrate.proofs.RetiredParts.{asked_so_far}
use Rattle.gr_migrate.proofs.ask.asks.Given as goal

abbrev pub invariant-loop-edge : goal.invariant-loop-edge
invariant-loop-edge g l = l.asked.keys ≡ asked_so_far l.view l.me l.rows.stable l.to (take l.edge-index l.retired)
