use Rattle.std.proofs.Common.{◌≡◌, ◌∙◌, refl, ap, subst, get_or, set, None}
use Rattle.std.specs.Prelude.{IfSome}
use Rattle.std.proofs.lemmas.List.{get_or_default}
use Rattle.gr_base.specs.Places.{without_place}
use Rattle.gr_lists.proofs.Tests.{by_option}
use Rattle.gr_rules.specs.Exchange.{unsent}
use Rattle.gr_cluster.specs.Work.{sent_host}
use Rattle.gr_core.specs.Works.{MaySend}
use Rattle.gr_core.proofs.Acting.{up-is}
use Rattle.gr_core.proofs.Standing.{stand-set, stand-none}
use Rattle.gr_core.proofs.cluster.work.send.Goals as goal

pub returns-clause-stand : goal.returns-clause-stand
returns-clause-stand g c =
    let items = c.args.hosts.now.items in
    let p = c.args.p in
    let others = without_place c.args.parties p in
    let slot = c.index_mut.result.now in
    let slot_is : slot ≡ get_or items p None = c.index_mut.ensures.value ∙ (ap (λ k. get_or items k slot) c.from.ensures ∙ get_or_default items p slot None c.requires.place) in
    let after = set items c.from.result c.note_sent.new.slot in
    let put : after ≡ set items p c.note_sent.new.slot = ap (λ n. set items n c.note_sent.new.slot) c.from.ensures in
    by_option (get_or items p None)
    (λ none. stand-none items after p c.requires.place (put ∙ ap (set items p) (c.note_sent.ensures.none (slot_is ∙ none))))
    (λ h at.
    let may = subst (λ o. IfSome o (λ k. MaySend others k)) at c.requires.line in
    let q = up-is (unsent others h.sent) may.left in
    let is = c.note_sent.ensures.sent h q.it (slot_is ∙ at) q.is in
    stand-set items after p h (sent_host others q.it h) c.requires.place at (put ∙ ap (set items p) is) refl refl refl)
