use Rattle.std.proofs.Common.{◌∙◌, ℕ, length, eqb-true, ap, sym, subst}
use Rattle.std.specs.Prelude.{◌||◌}
use Rattle.std.specs.List.{filter}
use Rattle.gr_base.specs.Rising.{RisesBy, has, union}
use Rattle.gr_base.proofs.Rising.{filter-rises, keys-rise}
use Rattle.gr_base.proofs.Union.{has-union, union-rises}
use Rattle.gr_batch.specs.declared.body.NewValue.{NewValue}
use Rattle.gr_signal.proofs.Marks.{marked_in, marked-has, has-nothing}
use Rattle.gr_signal.proofs.take.take_woken.Goals as goal

pub returns-clause-rise : goal.returns-clause-rise
returns-clause-rise g c =
    let body = c.args.body.now in
    let is = c.in_ok-woken.ensures ∙ ap (λ l. union l c.as_slice-3.result.now) c.as_slice-2.ensures ∙ ap (union c.args.woken.now) (c.as_slice-3.ensures ∙ c.in_ok-marked.ensures) in
    let key = λ (n : NewValue g.row.V.Denot). n.vertex in
    subst (RisesBy (λ (n : ℕ). n)) (sym is)
    (union-rises c.args.woken.now (marked_in body) c.requires.woken_rise (keys-rise key (filter (λ n. n.wake) body) (filter-rises key (λ n. n.wake) body c.requires.body_rises)))

pub returns-clause-members : goal.returns-clause-members
returns-clause-members g c = λ v.
    let body = c.args.body.now in
    let is = c.in_ok-woken.ensures ∙ ap (λ l. union l c.as_slice-3.result.now) c.as_slice-2.ensures ∙ ap (union c.args.woken.now) (c.as_slice-3.ensures ∙ c.in_ok-marked.ensures) in
    ap (λ l. has l v) is ∙ has-union v c.args.woken.now (marked_in body) ∙ ap (λ b. has c.args.woken.now v || b) (marked-has v body)

pub returns-then-is_empty-clause-members : goal.returns-then-is_empty-clause-members
returns-then-is_empty-clause-members g c = λ v.
    let body = c.args.body.now in
    let is = c.as_slice.ensures ∙ c.in_ok-marked.ensures in
    has-nothing (marked_in body) (has c.args.woken.now v) v (ap length (sym is) ∙ eqb-true (length c.as_slice.result.now) 0 (sym c.is_empty.ensures ∙ c.if-is_empty.true))
    ∙ ap (λ b. has c.args.woken.now v || b) (marked-has v body)
