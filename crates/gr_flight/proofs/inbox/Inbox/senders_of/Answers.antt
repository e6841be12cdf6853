use Rattle.std.proofs.Common.{◌≡◌, ◌<◌, ◌∙◌, ℕ, List, [], get_or, length, ap, arith}
use Rattle.std.specs.List.{list_any}
use Rattle.std.proofs.lemmas.Grind.{common_steps}
use Rattle.std.proofs.lemmas.List.{get_or_default}
use Rattle.gr_base.specs.Rising.{has}
use Rattle.gr_batch.specs.Bodies.{is_of}
use Rattle.gr_flight.proofs.inbox.Inbox.senders_of.Goals as goal

pub returns : goal.returns
returns g c = λ p small.
    let n = c.since-newest.result in let i = c.index_of.result in let items = c.self.inside.batches.items in
    let senders = c.since-newest.ensures.senders items c.self.invariant.1 in
    let newest : n.epoch ≡ c.args.epoch = grind (arith, common_steps) in
    let inside : i < length n.senders = omega arith in
    ap (λ (ps : List ℕ). has ps p) (get_or_default n.senders i c.index-newest-index_of.result [] inside)
    ∙ ap (λ (j : ℕ). has (get_or n.senders j []) p) c.index_of.ensures.code
    ∙ senders.there c.args.stage p small
    ∙ ap (λ (e : ℕ). list_any (is_of p e c.args.stage) items) newest
    ∙ ap (list_any (is_of p c.args.epoch c.args.stage)) c.self.view_is
