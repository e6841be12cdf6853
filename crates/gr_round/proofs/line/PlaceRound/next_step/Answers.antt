use Rattle.std.proofs.Common.{◌≡◌, ◌∙◌, ℕ, List, not, sym, ap, subst}
use Rattle.std.specs.Prelude.{◌↔◌, IsTrue}
use Rattle.gr_batch.specs.declared.batch.Batch.{Batch}
use Rattle.gr_base.specs.Places.{without_place}
use Rattle.gr_rules.specs.Exchange.{Exchange, unsent}
use Rattle.gr_rules.specs.Todo.{Todo, compute_or_wait, send_or_rest}
use Rattle.gr_round.specs.declared.view.RoundView.{RoundView}
use Rattle.gr_round.specs.declared.line.PlaceRound.TheInside.{Inside}
use Rattle.gr_round.specs.Line.{RoundLine, is_line}
use Rattle.gr_round.specs.Todo.{next_at, AwaitsSending}
use Rattle.gr_round.proofs.Steps.{todo-computes, todo-sends, todo-reports, todo-rests, rests-reported}
use Rattle.gr_round.proofs.line.PlaceRound.next_step.Goals as goal

-- when the place rests
rest : {V A : Type 0} (p : ℕ) (w : RoundView) (inbox : List (Batch V A)) (i : Inside) (l : RoundLine) → record { exchange = record { stage = i.stage; computed = i.computed; sent = i.sent }; reported = i.reported } ≡ l →
    IsTrue (is_line (record { exchange = record { stage = i.stage; computed = i.computed; sent = i.sent }; reported = i.reported })) →
    AwaitsSending (without_place w.parties p) l.exchange → (next_at p w inbox l ≡ Todo.Rest) ↔ IsTrue l.reported
rest p w inbox i l is line =
    subst (λ k. AwaitsSending (without_place w.parties p) k.exchange → (next_at p w inbox k ≡ Todo.Rest) ↔ IsTrue k.reported) is
    (rests-reported inbox w.epoch (without_place w.parties p) (record { stage = i.stage; computed = i.computed; sent = i.sent }) i.reported line)

pub returns-then-not-self-clause-next : goal.returns-then-not-self-clause-next
returns-then-not-self-clause-next g c =
    let w = c.args.view.now in
    let x : Exchange = record { stage = c.self.inside.stage; computed = c.self.inside.computed; sent = c.self.inside.sent } in
    c.compute_or_wait.ensures.next ∙ (λ j. compute_or_wait c.args.inbox.now w.epoch (c.others_of-others.ensures j) (c.needed.ensures j))
    ∙ sym (todo-computes c.args.inbox.now w.epoch (without_place w.parties c.args.me) x c.self.inside.reported (ap not c.if-not-self.true))
    ∙ ap (next_at c.args.me w c.args.inbox.now) c.self.view_is

pub returns-then-not-is_end-clause-next : goal.returns-then-not-is_end-clause-next
returns-then-not-is_end-clause-next g c =
    let w = c.args.view.now in
    let x : Exchange = record { stage = c.self.inside.stage; computed = c.self.inside.computed; sent = c.self.inside.sent } in
    c.send_or_rest.ensures.next ∙ ap (λ ps. send_or_rest (unsent ps c.self.inside.sent)) c.others_of-others.ensures
    ∙ sym (todo-sends c.args.inbox.now w.epoch (without_place w.parties c.args.me) x c.self.inside.reported (ap not c.if-not-self.false) (ap not (sym c.is_end.ensures ∙ c.if-not-is_end.true)))
    ∙ ap (next_at c.args.me w c.args.inbox.now) c.self.view_is

pub returns-then-self-clause-next : goal.returns-then-self-clause-next
returns-then-self-clause-next g c =
    let w = c.args.view.now in
    let x : Exchange = record { stage = c.self.inside.stage; computed = c.self.inside.computed; sent = c.self.inside.sent } in
    sym (todo-rests c.args.inbox.now w.epoch (without_place w.parties c.args.me) x c.self.inside.reported (ap not c.if-not-self.false) (ap not (sym c.is_end.ensures ∙ c.if-not-is_end.false)) (ap not c.if-self.true))
    ∙ ap (next_at c.args.me w c.args.inbox.now) c.self.view_is

pub returns-else-self-clause-next : goal.returns-else-self-clause-next
returns-else-self-clause-next g c =
    let w = c.args.view.now in
    let x : Exchange = record { stage = c.self.inside.stage; computed = c.self.inside.computed; sent = c.self.inside.sent } in
    sym (todo-reports c.args.inbox.now w.epoch (without_place w.parties c.args.me) x c.self.inside.reported (ap not c.if-not-self.false) (ap not (sym c.is_end.ensures ∙ c.if-not-is_end.false)) (ap not c.if-self.false))
    ∙ ap (next_at c.args.me w c.args.inbox.now) c.self.view_is

pub returns-then-not-self-clause-rest : goal.returns-then-not-self-clause-rest
returns-then-not-self-clause-rest g c = rest c.args.me c.args.view.now c.args.inbox.now c.self.inside c.args.self.now c.self.view_is c.self.invariant

pub returns-then-not-is_end-clause-rest : goal.returns-then-not-is_end-clause-rest
returns-then-not-is_end-clause-rest g c = rest c.args.me c.args.view.now c.args.inbox.now c.self.inside c.args.self.now c.self.view_is c.self.invariant

pub returns-then-self-clause-rest : goal.returns-then-self-clause-rest
returns-then-self-clause-rest g c = rest c.args.me c.args.view.now c.args.inbox.now c.self.inside c.args.self.now c.self.view_is c.self.invariant

pub returns-else-self-clause-rest : goal.returns-else-self-clause-rest
returns-else-self-clause-rest g c = rest c.args.me c.args.view.now c.args.inbox.now c.self.inside c.args.self.now c.self.view_is c.self.invariant
