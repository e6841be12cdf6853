use Rattle.std.proofs.Common.{◌∙◌, ◌++◌, ◌∷◌, [], take, sym, ap, subst, arith}
use Rattle.std.specs.List.{filter_map, cons_option}
use Rattle.std.proofs.lemmas.List.{take_all, append-nil}
use Rattle.gr_base.proofs.Nth.{get-some, get-none, filter_map-more}
use Rattle.gr_base.specs.Rising.{RisesBy}
use Rattle.gr_repair.specs.Short.{IsHeldLive}
use Rattle.gr_repair.proofs.Repair.{line, grant_body-lines, lines-rise}
use Rattle.gr_repair.proofs.grant.grants_for_short.Goals as goal
use Rattle.gr_repair.proofs.grant.grants_for_short.Goals.{in-Some-copy_for+in_ok-push, in_default-copy_for}

pub copy_for-requires-clause-held : goal.copy_for-requires-clause-held
copy_for-requires-clause-held g c =
    let rows = c.args.rows.now.stable in
    let at = get-some rows c.loop-copy.i c.in-Some.copy c.in-Some.ensures.copy in
    subst (IsHeldLive c.args.view.now.live) (sym at.1) (c.requires.held c.loop-copy.i c.in-Some.copy at.0)

pub loop-copy-preserved : goal.loop-copy-preserved
loop-copy-preserved g c =
    let rows = c.args.rows.now.stable in
    let h = line c.args.view.now c.args.me c.args.to in
    let i = c.loop-copy.i in
    let x = c.in-Some.copy in
    let at = get-some rows i x c.in-Some.ensures.copy in
    let more = filter_map-more h rows i x at.0 in
    elim c.match-copy_for.branch [
      | in-Some-copy_for+in_ok-push w ↦ record {
        within = omega (arith, at.0);
        body = w.body-is ∙ w.in_ok-push.ensures.ok ∙ ap (λ l. l ++ w.in-Some-copy_for.granted ∷ []) c.loop-copy.invariant.body
            ∙ ap (λ o. filter_map h (take i rows) ++ cons_option o []) (w.in-Some-copy_for.ensures ∙ ap h at.1) ∙ sym more;
      }
      | in_default-copy_for w ↦ record {
        within = omega (arith, at.0);
        body = w.body-is ∙ c.loop-copy.invariant.body ∙ sym (append-nil (filter_map h (take i rows)))
            ∙ ap (λ o. filter_map h (take i rows) ++ cons_option o []) (w.in_default-copy_for.ensures ∙ ap h at.1) ∙ sym more;
      }
    ]

pub returns-clause-body : goal.returns-clause-body
returns-clause-body g c =
    let rows = c.args.rows.now.stable in
    c.loop-copy.invariant.body
    ∙ ap (filter_map (line c.args.view.now c.args.me c.args.to)) (take_all c.loop-copy.i rows (get-none rows c.loop-copy.i c.in_default.ensures.copy))
    ∙ sym (grant_body-lines c.args.view.now c.args.me c.args.to rows)

pub returns-clause-rise : goal.returns-clause-rise
returns-clause-rise g c =
    let rows = c.args.rows.now.stable in
    subst (RisesBy (λ x. x.vertex)) (sym (grant_body-lines c.args.view.now c.args.me c.args.to rows) ∙ sym (returns-clause-body g c)) (lines-rise c.args.view.now c.args.me c.args.to rows c.in_default.ensures.rise.stable_rises)
