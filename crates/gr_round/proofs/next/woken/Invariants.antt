use Rattle.std.proofs.Common.{◌&&◌, eqb}
use Rattle.gr_batch.specs.declared.stage.Stage.TheVariants as stage
use Rattle.gr_batch.specs.Bodies.{values_of}
use Rattle.gr_rules.specs.AtPlace.{own_values}
use Rattle.gr_round.proofs.Known.{TakenBelow}
use Rattle.gr_round.proofs.next.woken.Given as goal

abbrev pub invariant-loop-p : goal.invariant-loop-p
invariant-loop-p g l =
    let own = own_values (g.P.VertexProgram.program_of l.given.program.now) l.party.place l.party.epoch l.party.others l.given.inbox.now l.rows.stable l.given.arcs.now.stable in
    TakenBelow l.given.inbox.now l.party.epoch stage.Update values_of (λ v n. eqb n.vertex v && n.wake) l.party.others own l.woken l.p
