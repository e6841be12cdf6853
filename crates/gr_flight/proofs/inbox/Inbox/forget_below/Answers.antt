use Rattle.std.proofs.Common.{◌≡◌, ◌≤◌, ◌∙◌, not, nat_lt, rules, ap, arith}
use Rattle.std.specs.List.{filter}
use Rattle.std.proofs.lemmas.Fn.{filter_same}
use Rattle.gr_flight.proofs.Once.{once-filter}
use Rattle.gr_flight.proofs.Senders.{knows-filter}
use Rattle.gr_flight.proofs.inbox.Inbox.forget_below.Goals as goal

pub returns : goal.returns
returns g c = filter_same _ _ _ (λ x b f' k. search rules) _ _ c.retain.ensures.filtered ∙ ap (filter (λ b. not (nat_lt b.epoch c.args.epoch))) c.self.view_is

pub invariant_of-self : goal.invariant_of-self
invariant_of-self g c =
    let items = c.self.inside.batches.items in let n = c.since-self-inside.result in
    let kept : c.retain.new.self.items ≡ filter (λ b. not (nat_lt b.epoch c.args.epoch)) items = filter_same _ _ _ (λ x b f' k. search rules) _ _ c.retain.ensures.filtered in
    let le : c.args.epoch ≤ n.epoch = omega arith in
    rw kept (once-filter (λ b. not (nat_lt b.epoch c.args.epoch)) items c.self.invariant.0, knows-filter n c.args.epoch items le (c.since-self-inside.ensures.senders items c.self.invariant.1))
