use Rattle.std.proofs.Common.{◌∙◌, ◌+◌, ◌++◌, flat_map, ℕ, List, eqb, sym, subst, arith}
use Rattle.gr_base.specs.Rising.{RisesBy}
use Rattle.gr_batch.specs.declared.stage.Stage.TheVariants as stage
use Rattle.gr_batch.specs.Bodies.{signals_of, calls_of}
use Rattle.gr_rules.specs.Inbox.{bodies}
use Rattle.gr_signal.specs.Signals.{signals_to}
use Rattle.gr_round.proofs.Known.{TakenBelow, taken-none, taken-more, taken-same, taken-all}
use Rattle.gr_round.proofs.Senders.{part-fits}
use Rattle.gr_round.proofs.next.all_next.Goals as goal
use Rattle.gr_round.proofs.next.all_next.Goals.{then-has+in_ok-take_signals, else-has}

pub loop-p-init : goal.loop-p-init
loop-p-init g c =
    let inbox = c.args.inbox.now in
    let party = c.args.party.now in
    let t = λ (v : ℕ). λ (x : ℕ). eqb x v in
    let first = signals_to c.args.targets.now party.place ++ flat_map signals_of (bodies inbox party.epoch stage.Signal party.others) in
    taken-none inbox party.epoch stage.Call calls_of t party.others first c.in_ok-next.next c.in_ok-next.ensures.members c.in_ok-next.ensures.rise

pub take_signals-requires-clause-body_rises : goal.take_signals-requires-clause-body_rises
take_signals-requires-clause-body_rises g c =
    part-fits c.args.inbox.now c.args.party.now.epoch stage.Call calls_of (λ b. RisesBy (λ (v : ℕ). v) (calls_of b)) (RisesBy (λ (v : ℕ). v)) (λ i j d h l. absurd (omega arith)) (λ b k. k)
    c.args.party.now.others c.loop-p.p c.requires.calls (sym c.has.ensures.test ∙ c.if-has.true) _ c.calls_from.ensures

pub loop-p-preserved : goal.loop-p-preserved
loop-p-preserved g c =
    let inbox = c.args.inbox.now in
    let party = c.args.party.now in
    let t = λ (v : ℕ). λ (x : ℕ). eqb x v in
    let first = signals_to c.args.targets.now party.place ++ flat_map signals_of (bodies inbox party.epoch stage.Signal party.others) in
    let at = λ (l : List ℕ). TakenBelow inbox party.epoch stage.Call calls_of t party.others first l (c.loop-p.p + 1) in
    elim c.if-has.branch [
      | then-has+in_ok-take_signals w ↦ subst at (sym w.next-is) (taken-more inbox party.epoch stage.Call calls_of t party.others first c.loop-p.next w.take_signals.new.next _ c.loop-p.p c.loop-p.invariant c.has.ensures.places
          (sym c.has.ensures.test ∙ w.if-has.true) w.calls_from.ensures w.in_ok-take_signals.ensures.members w.take_signals.ensures.rise)
      | else-has w ↦ subst at (sym w.next-is) (taken-same inbox party.epoch stage.Call calls_of t party.others first c.loop-p.next c.loop-p.p c.loop-p.invariant c.has.ensures.places (sym c.has.ensures.test ∙ w.if-has.false))
    ]

pub returns-clause-members : goal.returns-clause-members
returns-clause-members g c =
    let inbox = c.args.inbox.now in
    let party = c.args.party.now in
    let t = λ (v : ℕ). λ (x : ℕ). eqb x v in
    let first = signals_to c.args.targets.now party.place ++ flat_map signals_of (bodies inbox party.epoch stage.Signal party.others) in
    taken-all inbox party.epoch stage.Call calls_of t party.others first c.loop-p.next c.loop-p.p (omega arith) c.loop-p.invariant

pub returns-clause-rise : goal.returns-clause-rise
returns-clause-rise g c = c.loop-p.invariant.rise
