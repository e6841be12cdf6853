use Rattle.std.proofs.Common.{sym, subst}
use Rattle.gr_core.specs.Targets.{AreGiven}
use Rattle.gr_core.specs.Works.{NeedsHold}
use Rattle.gr_core.proofs.host.Host.act.Goals as goal

pub act-requires-clause-needs : goal.act-requires-clause-needs
act-requires-clause-needs g c = subst (NeedsHold (g.P.VertexProgram.program_of c.args.program.now) c.args.me c.args.view.now) (sym c.self.view_is) c.requires.needs

pub act-requires-clause-targets : goal.act-requires-clause-targets
act-requires-clause-targets g c = subst (λ h. AreGiven (g.P.VertexProgram.program_of c.args.program.now) c.args.view.now c.args.me h c.args.targets.now) (sym c.self.view_is) c.requires.targets
