use Rattle.std.proofs.Common.{◌∙◌, ap}
use Rattle.gr_report.specs.Goes.{goes_with}
use Rattle.gr_law_runs.proofs.Bounds.Outcomes.{step-goes}
use Rattle.gr_stepped.proofs.Raised.{stepped-raised}
use Rattle.gr_stepped.proofs.tests.stepped.step.Goals as goal

pub push_outcome-requires : goal.push_outcome-requires
push_outcome-requires g c = record {
  goes = ap (λ x. goes_with c.args.event x.1) c.in-Ok.ensures.ok
      ∙ step-goes (g.P.VertexProgram.program_of c.args.cluster.now.program) c.args.cluster.now.cluster c.args.event;
}

pub returns-in-Ok-clause-serial : goal.returns-in-Ok-clause-serial
returns-in-Ok-clause-serial g c =
    (stepped-raised (g.P.VertexProgram.program_of c.args.cluster.now.program) c.args.cluster.now.cluster c.step.new.self.cluster c.args.event c.in-Ok.outcome c.in-Ok.ensures.ok).serial.1

pub returns-in-Ok-clause-epoch : goal.returns-in-Ok-clause-epoch
returns-in-Ok-clause-epoch g c =
    (stepped-raised (g.P.VertexProgram.program_of c.args.cluster.now.program) c.args.cluster.now.cluster c.step.new.self.cluster c.args.event c.in-Ok.outcome c.in-Ok.ensures.ok).epoch.1

pub returns-in-Ok-clause-commits : goal.returns-in-Ok-clause-commits
returns-in-Ok-clause-commits g c =
    (stepped-raised (g.P.VertexProgram.program_of c.args.cluster.now.program) c.args.cluster.now.cluster c.step.new.self.cluster c.args.event c.in-Ok.outcome c.in-Ok.ensures.ok).commits.1

pub returns-in-Ok-clause-flight : goal.returns-in-Ok-clause-flight
returns-in-Ok-clause-flight g c =
    (stepped-raised (g.P.VertexProgram.program_of c.args.cluster.now.program) c.args.cluster.now.cluster c.step.new.self.cluster c.args.event c.in-Ok.outcome c.in-Ok.ensures.ok).flight
