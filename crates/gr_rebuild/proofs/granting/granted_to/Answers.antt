use Rattle.std.proofs.Common.{◌∙◌, sym, ap, subst}
use Rattle.std.proofs.lemmas.Result.{IfOk-weaker}
use Rattle.gr_rules.specs.Grants.{wanted, grant_body}
use Rattle.gr_migrate.specs.Askers.{AreAskers}
use Rattle.gr_rebuild.specs.Asked.{asked_for}
use Rattle.gr_rebuild.proofs.granting.granted_to.Goals as goal

pub returns-in_ok-asked-clause-body : goal.returns-in_ok-asked-clause-body
returns-in_ok-asked-clause-body g c =
    let w = c.args.place.now.view in
    let by = asked_for c.args.inbox.now c.args.place.now.epoch c.args.place.now.others in
    let askers = subst (λ l. AreAskers l by) (sym c.as_slice.ensures) c.in_ok-asked.ensures.askers in
    let want = ap (λ repair. grant_body w (wanted repair w) c.args.place.now.place by c.args.rows.now.stable c.args.to) (sym c.if-place.false) in
    IfOk-weaker c.grants.result _ _ (λ b any. any by askers ∙ want) c.grants.ensures.any_askers
