use Rattle.std.proofs.Common.{◌∙◌, sym, ap}
use Rattle.gr_view.specs.Modes.{is_over}
use Rattle.gr_core.proofs.Network.{step-over}
use Rattle.gr_core.proofs.cluster.Cluster.step.Goals as goal

pub returns-then-is_over-clause-ok : goal.returns-then-is_over-clause-ok
returns-then-is_over-clause-ok g c =
    step-over (g.P.VertexProgram.program_of c.args.self.now.program) c.args.self.now.cluster c.args.event (ap is_over (sym c.mode.ensures.mode) ∙ (sym c.is_over.ensures ∙ c.if-is_over.true))
