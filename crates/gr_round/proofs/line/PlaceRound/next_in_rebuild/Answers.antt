use Rattle.std.proofs.Common.{◌∙◌, not, sym, ap}
use Rattle.gr_base.specs.Places.{without_place}
use Rattle.gr_rules.specs.Exchange.{Exchange, unsent}
use Rattle.gr_rules.specs.Todo.{compute_or_wait, send_or_rest}
use Rattle.gr_round.specs.Line.{RoundLine}
use Rattle.gr_round.specs.Todo.{todo_in_rebuild}
use Rattle.gr_round.proofs.Steps.{rebuild-computes, rebuild-sends, rebuild-appends, rebuild-reports, rebuild-rests}
use Rattle.gr_round.proofs.line.PlaceRound.next_in_rebuild.Goals as goal

pub returns-then-not-self-clause-next : goal.returns-then-not-self-clause-next
returns-then-not-self-clause-next g c =
    let inbox = c.args.inbox.now in
    let ps = without_place c.args.parties c.args.me in
    let x : Exchange = record { stage = c.self.inside.stage; computed = c.self.inside.computed; sent = c.self.inside.sent } in
    c.compute_or_wait.ensures.next ∙ (λ j. compute_or_wait inbox c.args.epoch (c.others_of-others.ensures j) (c.needed.ensures j))
    ∙ sym (rebuild-computes inbox c.args.epoch ps x c.args.appended c.self.inside.reported (ap not c.if-not-self.true))
    ∙ ap (λ (l : RoundLine). todo_in_rebuild inbox c.args.epoch ps l.exchange c.args.appended l.reported) c.self.view_is

pub returns-then-not-is_end-clause-next : goal.returns-then-not-is_end-clause-next
returns-then-not-is_end-clause-next g c =
    let inbox = c.args.inbox.now in
    let ps = without_place c.args.parties c.args.me in
    let x : Exchange = record { stage = c.self.inside.stage; computed = c.self.inside.computed; sent = c.self.inside.sent } in
    c.send_or_rest.ensures.next ∙ ap (λ qs. send_or_rest (unsent qs c.self.inside.sent)) c.others_of-others.ensures
    ∙ sym (rebuild-sends inbox c.args.epoch ps x c.args.appended c.self.inside.reported (ap not c.if-not-self.false) (ap not (sym c.is_end.ensures ∙ c.if-not-is_end.true)))
    ∙ ap (λ (l : RoundLine). todo_in_rebuild inbox c.args.epoch ps l.exchange c.args.appended l.reported) c.self.view_is

pub returns-then-not-appended-clause-next : goal.returns-then-not-appended-clause-next
returns-then-not-appended-clause-next g c =
    let inbox = c.args.inbox.now in
    let ps = without_place c.args.parties c.args.me in
    let x : Exchange = record { stage = c.self.inside.stage; computed = c.self.inside.computed; sent = c.self.inside.sent } in
    sym (rebuild-appends inbox c.args.epoch ps x c.args.appended c.self.inside.reported (ap not c.if-not-self.false) (ap not (sym c.is_end.ensures ∙ c.if-not-is_end.false)) (ap not c.if-not-appended.true))
    ∙ ap (λ (l : RoundLine). todo_in_rebuild inbox c.args.epoch ps l.exchange c.args.appended l.reported) c.self.view_is

pub returns-then-self-clause-next : goal.returns-then-self-clause-next
returns-then-self-clause-next g c =
    let inbox = c.args.inbox.now in
    let ps = without_place c.args.parties c.args.me in
    let x : Exchange = record { stage = c.self.inside.stage; computed = c.self.inside.computed; sent = c.self.inside.sent } in
    sym (rebuild-rests inbox c.args.epoch ps x c.args.appended c.self.inside.reported (ap not c.if-not-self.false) (ap not (sym c.is_end.ensures ∙ c.if-not-is_end.false)) (ap not c.if-not-appended.false) (ap not c.if-self.true))
    ∙ ap (λ (l : RoundLine). todo_in_rebuild inbox c.args.epoch ps l.exchange c.args.appended l.reported) c.self.view_is

pub returns-else-self-clause-next : goal.returns-else-self-clause-next
returns-else-self-clause-next g c =
    let inbox = c.args.inbox.now in
    let ps = without_place c.args.parties c.args.me in
    let x : Exchange = record { stage = c.self.inside.stage; computed = c.self.inside.computed; sent = c.self.inside.sent } in
    sym (rebuild-reports inbox c.args.epoch ps x c.args.appended c.self.inside.reported (ap not c.if-not-self.false) (ap not (sym c.is_end.ensures ∙ c.if-not-is_end.false)) (ap not c.if-not-appended.false) (ap not c.if-self.false))
    ∙ ap (λ (l : RoundLine). todo_in_rebuild inbox c.args.epoch ps l.exchange c.args.appended l.reported) c.self.view_is
