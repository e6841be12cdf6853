use Rattle.std.proofs.Common.{subst}
use Rattle.gr_core.specs.Tables.{Agrees}
use Rattle.gr_core.proofs.cluster.Cluster.mode.Goals as goal

pub returns-clause-agrees : goal.returns-clause-agrees
returns-clause-agrees g c = subst (λ x. Agrees (g.P.VertexProgram.program_of x.program) x.cluster) c.self.view_is c.self.invariant.agrees
