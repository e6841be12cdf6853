use Rattle.std.proofs.Common.{◌≡◌, ap, ◌∙◌, ◌++◌, ◌∷◌, [], sym, Some, None}
use Rattle.toml.specs.View.{view}
use Rattle.gr_job.specs.Kinds.{natural}
use Rattle.gr_job.proofs.Numbers.{numbers_of-more, all_numbers-more, all_numbers-none, within-none}
use Rattle.gr_job.proofs.kinds.numbers.Goals as goal

pub returns-in-None : goal.returns-in-None
returns-in-None c =
    let none : None ≡ natural 4294967295 (view _) = rw (← c.value-item.is) c.in-None.ensures in
    rw (within-none view 4294967295 c.args.longest _ (all_numbers-none view 4294967295 c.args.values.now c.loop-value.value-index c.value-item.result c.loop-value-test.true none))

pub loop-value-preserved : goal.loop-value-preserved
loop-value-preserved c =
    let some : Some c.in-Some.n ≡ natural 4294967295 (view _) = rw (← c.value-item.is) c.in-Some.ensures in (
      c.loop-value.invariant.0,
      c.in_ok-push-in-Some.ensures.ok ∙ ap (λ ns. ns ++ c.in-Some.n ∷ []) c.loop-value.invariant.1 ∙ sym (numbers_of-more view 4294967295 c.args.values.now c.loop-value.value-index c.value-item.result _ c.loop-value-test.true some),
      all_numbers-more view 4294967295 c.args.values.now c.loop-value.value-index c.value-item.result _ c.loop-value-test.true some c.loop-value.invariant.2,
    )
