use Rattle.std.proofs.Common.{◌∙◌, ℕ, sym, ap, subst, arith}
use Rattle.std.proofs.lemmas.List.{take_all}
use Rattle.gr_base.specs.Rising.{RisesBy}
use Rattle.gr_base.proofs.Rising.{filter-rises}
use Rattle.gr_rules.specs.Rows.{row}
use Rattle.gr_signal.proofs.Called.{is_called, called-call}
use Rattle.gr_signal.proofs.Picked.{passes, picked, picked-are}
use Rattle.gr_signal.proofs.signal.calls.Goals as goal

pub returns-clause-call : goal.returns-clause-call
returns-clause-call g c =
    let rows = c.args.rows.now.stable in
    let next = c.args.next.now in
    let t = is_called c.args.place c.args.to in
    c.loop-v.invariant.body ∙ ap (picked t rows) (take_all c.loop-v.v-index next c.loop-v-test.false)
    ∙ picked-are t rows next c.requires.rise (λ some. c.loop-v.invariant.rise (omega arith)) ∙ called-call next rows c.args.place c.args.to

pub returns-clause-rise : goal.returns-clause-rise
returns-clause-rise g c =
    let rows = c.args.rows.now.stable in
    let next = c.args.next.now in
    let t = is_called c.args.place c.args.to in
    subst (RisesBy (λ (n : ℕ). n)) (sym (c.loop-v.invariant.body ∙ ap (picked t rows) (take_all c.loop-v.v-index next c.loop-v-test.false)))
    (filter-rises (λ n. n) (λ v. passes t (row rows v)) next c.requires.rise)
