use Rattle.std.proofs.Common.{◌∙◌, ◌+◌, ◌||◌, ◌&&◌, ℕ, List, eqb, sym, ap, subst, arith}
use Rattle.gr_base.specs.Rising.{RisesBy, has}
use Rattle.gr_batch.specs.declared.stage.Stage.TheVariants as stage
use Rattle.gr_batch.specs.Bodies.{values_of}
use Rattle.gr_batch.specs.declared.body.NewValue.{NewValue}
use Rattle.gr_rules.specs.Round.{woke_by}
use Rattle.gr_rules.specs.AtPlace.{own_values}
use Rattle.gr_round.specs.Needs.{UpdateFits}
use Rattle.gr_round.proofs.Known.{TakenBelow, taken-none, taken-more, taken-same, taken-all}
use Rattle.gr_round.proofs.Senders.{part-fits}
use Rattle.gr_round.proofs.next.woken.Goals as goal
use Rattle.gr_round.proofs.next.woken.Goals.{then-has+in_ok-take_woken-2, else-has}

pub loop-p-init : goal.loop-p-init
loop-p-init g c =
    let given = c.args.given.now in
    let inbox = given.inbox.now in
    let party = c.args.party.now in
    let t = λ (v : ℕ). λ (n : NewValue g.row.P-Value.Denot). eqb n.vertex v && n.wake in
    let own = own_values (g.P.VertexProgram.program_of given.program.now) party.place party.epoch party.others inbox c.args.rows.now.stable given.arcs.now.stable in
    taken-none inbox party.epoch stage.Update values_of t party.others own c.take_woken.new.woken
    (λ v. c.in_ok-take_woken.ensures.members v ∙ ap (λ l. has l v || woke_by c.as_slice.result.now v) c.new-woken.ensures ∙ ap (λ l. woke_by l v) (c.as_slice.ensures ∙ c.in_ok-own.ensures.values))
    c.take_woken.ensures.rise

pub take_woken-requires-then-has-clause-body_rises : goal.take_woken-requires-then-has-clause-body_rises
take_woken-requires-then-has-clause-body_rises g c =
    part-fits c.args.given.now.inbox.now c.args.party.now.epoch stage.Update values_of (UpdateFits c.args.rows.now.stable) (RisesBy (λ n. n.vertex)) (λ i j d h l. absurd (omega arith)) (λ b k. k.rise)
    c.args.party.now.others c.loop-p.p c.requires.needs.updates (sym c.has.ensures.test ∙ c.if-has.true) _ c.values_from.ensures

pub loop-p-preserved : goal.loop-p-preserved
loop-p-preserved g c =
    let given = c.args.given.now in
    let inbox = given.inbox.now in
    let party = c.args.party.now in
    let t = λ (v : ℕ). λ (n : NewValue g.row.P-Value.Denot). eqb n.vertex v && n.wake in
    let own = own_values (g.P.VertexProgram.program_of given.program.now) party.place party.epoch party.others inbox c.args.rows.now.stable given.arcs.now.stable in
    let at = λ (l : List ℕ). TakenBelow inbox party.epoch stage.Update values_of t party.others own l (c.loop-p.p + 1) in
    elim c.if-has.branch [
      | then-has+in_ok-take_woken-2 w ↦ subst at (sym w.woken-is) (taken-more inbox party.epoch stage.Update values_of t party.others own c.loop-p.woken w.take_woken-then-has.new.woken _ c.loop-p.p c.loop-p.invariant c.has.ensures.places
          (sym c.has.ensures.test ∙ w.if-has.true) w.values_from.ensures w.in_ok-take_woken-2.ensures.members w.take_woken-then-has.ensures.rise)
      | else-has w ↦ subst at (sym w.woken-is) (taken-same inbox party.epoch stage.Update values_of t party.others own c.loop-p.woken c.loop-p.p c.loop-p.invariant c.has.ensures.places (sym c.has.ensures.test ∙ w.if-has.false))
    ]

pub returns-clause-members : goal.returns-clause-members
returns-clause-members g c =
    let given = c.args.given.now in
    let inbox = given.inbox.now in
    let party = c.args.party.now in
    let t = λ (v : ℕ). λ (n : NewValue g.row.P-Value.Denot). eqb n.vertex v && n.wake in
    let own = own_values (g.P.VertexProgram.program_of given.program.now) party.place party.epoch party.others inbox c.args.rows.now.stable given.arcs.now.stable in
    taken-all inbox party.epoch stage.Update values_of t party.others own c.loop-p.woken c.loop-p.p (omega arith) c.loop-p.invariant

pub returns-clause-rise : goal.returns-clause-rise
returns-clause-rise g c = c.loop-p.invariant.rise
