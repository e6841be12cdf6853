use Rattle.std.proofs.Common.{◌∙◌, ◌+◌, ◌++◌, ◌||◌, flat_map, ℕ, List, sym, ap, subst, arith}
use Rattle.gr_base.specs.Rising.{RisesBy, has}
use Rattle.gr_batch.specs.declared.stage.Stage.TheVariants as stage
use Rattle.gr_batch.specs.Bodies.{signals_of}
use Rattle.gr_rules.specs.Inbox.{bodies}
use Rattle.gr_rules.specs.AtPlace.{known_values}
use Rattle.gr_rules.specs.Round.{call_body}
use Rattle.gr_signal.specs.Signals.{signals_to, calls_to}
use Rattle.gr_signal.proofs.Called.{calls-signalled}
use Rattle.gr_signal.proofs.Signalled.{signals-signalled}
use Rattle.gr_round.proofs.Called.{is_call_of, call-any, call-members}
use Rattle.gr_round.proofs.Known.{TakenBelow, taken-none, taken-more, taken-same, taken-all}
use Rattle.gr_round.proofs.Senders.{part-fits}
use Rattle.gr_round.proofs.next.call_body.Goals as goal
use Rattle.gr_round.proofs.next.call_body.Goals.{then-has+in_ok-more+in_ok-take_signals, else-has}

pub loop-p-init : goal.loop-p-init
loop-p-init g c =
    let inbox = c.args.given.now.inbox.now in
    let party = c.args.party.now in
    let rows = c.args.rows.now.stable in
    let arcs = c.args.given.now.arcs.now.stable in
    let known = known_values (g.P.VertexProgram.program_of c.args.given.now.program.now) party.place party.epoch party.others inbox rows arcs in
    let t = is_call_of rows party.place c.args.to in
    let first = signals_to c.args.targets.now party.place in
    let own = ap (λ ts. signals_to ts party.place) c.requires.targets ∙ signals-signalled known rows arcs party.place in
    taken-none inbox party.epoch stage.Signal signals_of t party.others first c.in_ok-called.called
    (λ v. ap (λ l. has l v) (c.in_ok-called.ensures.body ∙ ap (λ ts. calls_to ts party.place c.args.to) c.requires.targets
    ∙ calls-signalled known rows arcs party.place c.args.to c.count-count.ensures.rise.stable_rises
    ∙ ap (λ l. call_body l rows party.place c.args.to) (sym own)) ∙ call-any rows party.place c.args.to c.count-count.ensures.rise.stable_rises first v)
    c.in_ok-called.ensures.rise

pub calls-requires-clause-rise : goal.calls-requires-clause-rise
calls-requires-clause-rise g c =
    part-fits c.args.given.now.inbox.now c.args.party.now.epoch stage.Signal signals_of (λ b. RisesBy (λ (v : ℕ). v) (signals_of b)) (RisesBy (λ (v : ℕ). v)) (λ i j d h l. absurd (omega arith)) (λ b k. k)
    c.args.party.now.others c.loop-p.p c.requires.signals (sym c.has.ensures.test ∙ c.if-has.true) _ c.signals_from-signals.ensures

pub loop-p-preserved : goal.loop-p-preserved
loop-p-preserved g c =
    let inbox = c.args.given.now.inbox.now in
    let party = c.args.party.now in
    let rows = c.args.rows.now.stable in
    let t = is_call_of rows party.place c.args.to in
    let first = signals_to c.args.targets.now party.place in
    let at = λ (l : List ℕ). TakenBelow inbox party.epoch stage.Signal signals_of t party.others first l (c.loop-p.p + 1) in
    elim c.if-has.branch [
      | then-has+in_ok-more+in_ok-take_signals w ↦ subst at (sym w.called-is) (taken-more inbox party.epoch stage.Signal signals_of t party.others first c.loop-p.called w.take_signals.new.next w.signals_from-signals.result.now c.loop-p.p c.loop-p.invariant c.has.ensures.places
          (sym c.has.ensures.test ∙ w.if-has.true) w.signals_from-signals.ensures
          (λ v. w.in_ok-take_signals.ensures.members v ∙ ap (λ b. has c.loop-p.called v || b)
          (ap (λ l. has l v) (w.as_slice.ensures ∙ w.in_ok-more.ensures.call) ∙ call-any rows party.place c.args.to c.count-count.ensures.rise.stable_rises _ v))
          w.take_signals.ensures.rise)
      | else-has w ↦ subst at (sym w.called-is) (taken-same inbox party.epoch stage.Signal signals_of t party.others first c.loop-p.called c.loop-p.p c.loop-p.invariant c.has.ensures.places (sym c.has.ensures.test ∙ w.if-has.false))
    ]

pub returns : goal.returns
returns g c =
    let inbox = c.args.given.now.inbox.now in
    let party = c.args.party.now in
    let rows = c.args.rows.now.stable in
    let arcs = c.args.given.now.arcs.now.stable in
    let program = g.P.VertexProgram.program_of c.args.given.now.program.now in
    let known = known_values program party.place party.epoch party.others inbox rows arcs in
    let t = is_call_of rows party.place c.args.to in
    let first = signals_to c.args.targets.now party.place in
    let signalled = flat_map signals_of (bodies inbox party.epoch stage.Signal party.others) in
    let own = ap (λ ts. signals_to ts party.place) c.requires.targets ∙ signals-signalled known rows arcs party.place in
    call-members rows party.place c.args.to c.count-count.ensures.rise.stable_rises (first ++ signalled) c.loop-p.called c.loop-p.invariant.rise
    (λ v. taken-all inbox party.epoch stage.Signal signals_of t party.others first c.loop-p.called c.loop-p.p (omega arith) c.loop-p.invariant v)
    ∙ ap (λ l. call_body (l ++ signalled) rows party.place c.args.to) own
