use Rattle.std.proofs.Common.{◌∙◌, ◌==◌, filter, sym, ap, subst}
use Rattle.std.specs.Prelude.{◌&&◌}
use Rattle.std.proofs.lemmas.List.{take_all}
use Rattle.gr_base.specs.Rising.{RisesBy, has}
use Rattle.gr_base.proofs.Rising.{filter-rises, keys-rise}
use Rattle.gr_signal.specs.Signals.{calls_to}
use Rattle.gr_signal.specs.declared.target.Target.{Target}
use Rattle.gr_signal.proofs.target.Targets.called_to.Goals as goal

pub returns-clause-rise : goal.returns-clause-rise
returns-clause-rise c =
    let items = c.as_slice-target-items.result.now in
    let rises = subst (RisesBy (λ t. t.vertex)) (sym c.as_slice-target-items.ensures) c.self.invariant in
    let t = λ (x : Target). (x.master == c.args.place) && has x.holders c.args.to in
    subst (RisesBy (λ n. n)) (sym (c.loop-target.invariant ∙ ap (λ l. calls_to l c.args.place c.args.to) (take_all c.loop-target.target-index items c.loop-target-test.false)))
    (keys-rise (λ t. t.vertex) (filter t items) (filter-rises (λ t. t.vertex) t items rises))
