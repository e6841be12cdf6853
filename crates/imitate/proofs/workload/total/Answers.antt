use Rattle.std.proofs.Common.{◌+◌, ◌∙◌, min, ap}
use Rattle.imitate.proofs.Workloads.{total-more}
use Rattle.imitate.proofs.workload.total.Goals as goal

pub loop-x-preserved : goal.loop-x-preserved
loop-x-preserved c =
    c.saturating_add-total.ensures
    ∙ ap (λ n. min (c.loop-x.total + n) 18446744073709551615) c.finite.ensures
    ∙ total-more c.args.values.now c.loop-x.x-index _ c.loop-x-test.true c.loop-x.total c.loop-x.invariant
