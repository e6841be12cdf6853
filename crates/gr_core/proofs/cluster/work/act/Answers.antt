use Rattle.std.proofs.Common.{◌≡◌, ◌∙◌, sym, ap, subst, get_or, None}
use Rattle.std.specs.Prelude.{IfSome}
use Rattle.std.proofs.lemmas.List.{get_or_default}
use Rattle.gr_core.specs.Works.{NeedsHold}
use Rattle.gr_core.proofs.cluster.work.act.Goals as goal

pub act_with-requires-clause-needs : goal.act_with-requires-clause-needs
act_with-requires-clause-needs g c =
    let items = c.args.hosts.now.items in
    let slot = c.index_mut.result.now in
    let slot_is : slot ≡ get_or items c.args.p None = c.index_mut.ensures.value ∙ (ap (λ k. get_or items k slot) c.from.ensures ∙ get_or_default items c.args.p slot None c.requires.place) in
    subst (λ o. IfSome o (λ h. NeedsHold (g.P.VertexProgram.program_of c.args.program.now) c.args.p c.args.view.now h)) (sym slot_is ∙ c.in-Some.is) c.requires.needs
