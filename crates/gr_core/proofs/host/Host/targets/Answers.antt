use Rattle.std.proofs.Common.{sym, subst}
use Rattle.gr_core.specs.Works.{NeedsHold}
use Rattle.gr_core.proofs.host.Host.targets.Goals as goal

pub targets-requires : goal.targets-requires
targets-requires g c = record {
  needs = (subst (NeedsHold (g.P.VertexProgram.program_of c.args.program.now) c.args.me c.args.view.now) (sym c.self.view_is) c.requires.needs).news;
}
