use Rattle.std.proofs.Common.{◌∙◌, ◌==◌, filter, sym, ap, subst}
use Rattle.std.proofs.lemmas.List.{take_all}
use Rattle.gr_base.specs.Rising.{RisesBy}
use Rattle.gr_base.proofs.Rising.{filter-rises, keys-rise}
use Rattle.gr_signal.specs.Signals.{signals_to}
use Rattle.gr_signal.proofs.target.Targets.mastered_by.Goals as goal

pub returns-clause-rise : goal.returns-clause-rise
returns-clause-rise c =
    let items = c.as_slice-target-items.result.now in
    let rises = subst (RisesBy (λ t. t.vertex)) (sym c.as_slice-target-items.ensures) c.self.invariant in
    subst (RisesBy (λ n. n)) (sym (c.loop-target.invariant ∙ ap (λ l. signals_to l c.args.to) (take_all c.loop-target.target-index items c.loop-target-test.false)))
    (keys-rise (λ t. t.vertex) (filter (λ t. t.master == c.args.to) items) (filter-rises (λ t. t.vertex) (λ t. t.master == c.args.to) items rises))
