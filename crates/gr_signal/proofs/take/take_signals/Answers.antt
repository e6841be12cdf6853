use Rattle.std.proofs.Common.{◌∙◌, ℕ, length, eqb-true, ap, sym, subst}
use Rattle.gr_base.specs.Rising.{RisesBy, has, union}
use Rattle.gr_base.proofs.Union.{has-union, union-rises}
use Rattle.gr_signal.proofs.Marks.{has-nothing}
use Rattle.gr_signal.proofs.take.take_signals.Goals as goal

pub returns-clause-rise : goal.returns-clause-rise
returns-clause-rise c =
    let is = c.in_ok-next.ensures ∙ ap (λ l. union l c.args.body.now) c.as_slice.ensures in
    subst (RisesBy (λ (n : ℕ). n)) (sym is) (union-rises c.args.next.now c.args.body.now c.requires.next_rise c.requires.body_rises)

pub returns-clause-members : goal.returns-clause-members
returns-clause-members c = λ v.
    let is = c.in_ok-next.ensures ∙ ap (λ l. union l c.args.body.now) c.as_slice.ensures in
    ap (λ l. has l v) is ∙ has-union v c.args.next.now c.args.body.now

pub returns-then-is_empty-clause-members : goal.returns-then-is_empty-clause-members
returns-then-is_empty-clause-members c = λ v. has-nothing c.args.body.now (has c.args.next.now v) v (eqb-true (length c.args.body.now) 0 (sym c.is_empty.ensures ∙ c.if-is_empty.true))
