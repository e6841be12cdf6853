use Rattle.std.proofs.Common.{◌∙◌, ◌++◌, ◌∷◌, [], take, sym, ap, subst, arith, ℕ, List}
use Rattle.std.specs.List.{filter_map, cons_option}
use Rattle.std.proofs.lemmas.List.{take_all, append-nil}
use Rattle.gr_base.proofs.Nth.{get-some, get-none, filter_map-more}
use Rattle.gr_base.specs.Rising.{RisesBy}
use Rattle.gr_program.specs.declared.copy.VertexCopy.{VertexCopy}
use Rattle.gr_rules.specs.Grants.{grant_body}
use Rattle.gr_migrate.specs.Askers.{askers}
use Rattle.gr_migrate.specs.Granted.{grant_line}
use Rattle.gr_migrate.proofs.AskedBy.{all-askers}
use Rattle.gr_migrate.proofs.GrantLines.{lines-rise}
use Rattle.gr_migrate.proofs.grant.grants.Goals as goal
use Rattle.gr_migrate.proofs.grant.grants.Goals.{in-Some-grant+in_ok-push, in_default-grant}

pub loop-copy-preserved : goal.loop-copy-preserved
loop-copy-preserved g c =
    let w = c.args.view.now in
    let rows = c.args.rows.now.stable in
    let h = λ (r : VertexCopy _). grant_line w c.args.me (askers c.args.asked.now r.vertex) c.args.to r in
    let i = c.loop-copy.i in
    let x = c.in-Some.copy in
    let at = get-some rows i x c.in-Some.ensures.copy in
    let more = filter_map-more h rows i x at.0 in
    let asked = c.askers_of-askers.ensures ∙ c.in_ok-sets.ensures x.vertex in
    let line = ap (λ s. grant_line w c.args.me s c.args.to x) asked ∙ ap h at.1 in
    elim c.match-grant.branch [
      | in-Some-grant+in_ok-push k ↦ record {
        within = omega (arith, at.0);
        granted = k.granted-is ∙ (k.in_ok-push.ensures.ok ∙ (ap (λ l. l ++ k.in-Some-grant.grant ∷ []) c.loop-copy.invariant.granted
            ∙ (ap (λ o. filter_map h (take i rows) ++ cons_option o []) (k.in-Some-grant.ensures ∙ line) ∙ sym more)));
      }
      | in_default-grant k ↦ record {
        within = omega (arith, at.0);
        granted = k.granted-is ∙ (c.loop-copy.invariant.granted ∙ (sym (append-nil (filter_map h (take i rows)))
            ∙ (ap (λ o. filter_map h (take i rows) ++ cons_option o []) (k.in_default-grant.ensures ∙ line) ∙ sym more)));
      }
    ]

pub returns-clause-copies : goal.returns-clause-copies
unfolding grant_body
returns-clause-copies g c =
    let rows = c.args.rows.now.stable in
    c.loop-copy.invariant.granted
    ∙ ap (filter_map (λ (r : VertexCopy _). grant_line c.args.view.now c.args.me (askers c.args.asked.now r.vertex) c.args.to r)) (take_all c.loop-copy.i rows (get-none rows c.loop-copy.i c.in_default.ensures.copy))

pub returns-clause-any_askers : goal.returns-clause-any_askers
returns-clause-any_askers g c = λ asked_by are.
    returns-clause-copies g c ∙ ap (λ (by : ℕ → List ℕ). grant_body c.args.view.now 0 c.args.me by c.args.rows.now.stable c.args.to) (all-askers c.args.asked.now asked_by are)

pub returns-clause-rise : goal.returns-clause-rise
unfolding grant_body
returns-clause-rise g c =
    subst (RisesBy (λ r. r.vertex)) (sym (returns-clause-copies g c)) (lines-rise c.args.view.now c.args.me c.args.asked.now c.args.to c.args.rows.now.stable c.at.ensures.rise.stable_rises)
