use Rattle.std.proofs.Common.{◌∙◌, ◌<◌, sym, arith}
use Rattle.gr_cluster.specs.Tables.{host}
use Rattle.gr_cluster.specs.Todo.{can_work}
use Rattle.gr_core.proofs.Workers.{first-below, none-below}
use Rattle.gr_core.proofs.cluster.Cluster.first_worker.Goals as goal

pub returns-then-is_worker : goal.returns-then-is_worker
returns-then-is_worker g c =
    let t = c.args.self.now.cluster in
    let lt : c.loop-p.p < t.places = omega (arith, c.places-p-end.ensures.count, c.loop-p-test.true) in
    first-below (λ q. can_work t.coordinator q (host t q)) t.places c.loop-p.p lt c.loop-p.invariant (sym c.is_worker.ensures ∙ c.if-is_worker.true)

pub returns : goal.returns
returns g c =
    let t = c.args.self.now.cluster in
    none-below (λ q. can_work t.coordinator q (host t q)) t.places (λ q lt. c.loop-p.invariant q (omega (arith, c.places-p-end.ensures.count, c.loop-p-test.false, lt)))
