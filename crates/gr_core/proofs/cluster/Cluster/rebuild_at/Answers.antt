use Rattle.std.proofs.lemmas.Bool.{both_ways}
use Rattle.gr_core.proofs.Rebuilds.{waiting-step, resting-step, computing-takes, sending-takes, appending-takes}
use Rattle.gr_core.proofs.cluster.Cluster.rebuild_at.Goals as goal

pub returns-in-Compute-clause-told : goal.returns-in-Compute-clause-told
returns-in-Compute-clause-told g c = λ light.
    absurd (both_ways _ light (computing-takes (g.P.VertexProgram.program_of c.args.self.now.program) c.args.self.now.cluster c.args.p c.in-Compute.ensures.next))

pub returns-in-Send-clause-told : goal.returns-in-Send-clause-told
returns-in-Send-clause-told g c = λ light.
    absurd (both_ways _ light (sending-takes (g.P.VertexProgram.program_of c.args.self.now.program) c.args.self.now.cluster c.args.p c.in-Send.to c.in-Send.ensures.next))

pub returns-in-Append-clause-told : goal.returns-in-Append-clause-told
returns-in-Append-clause-told g c = λ light.
    absurd (both_ways _ light (appending-takes (g.P.VertexProgram.program_of c.args.self.now.program) c.args.self.now.cluster c.args.p c.in-Append.ensures.next))

pub returns-in-Wait-clause-ok : goal.returns-in-Wait-clause-ok
returns-in-Wait-clause-ok g c = waiting-step (g.P.VertexProgram.program_of c.args.self.now.program) c.args.self.now.cluster c.args.p c.in-Wait.stage c.in-Wait.from c.in-Wait.ensures.next

pub returns-in-Rest-clause-ok : goal.returns-in-Rest-clause-ok
returns-in-Rest-clause-ok g c = resting-step (g.P.VertexProgram.program_of c.args.self.now.program) c.args.self.now.cluster c.args.p c.in-Rest.ensures.next
