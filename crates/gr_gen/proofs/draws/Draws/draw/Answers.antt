use Rattle.gr_gen.proofs.Drawing.{step-by_remainders, shifted}
use Rattle.gr_gen.proofs.draws.Draws.draw.Goals as goal

pub returns-clause-state : goal.returns-clause-state
returns-clause-state c = step-by_remainders c.args.self.now.state

pub returns-clause-draw : goal.returns-clause-draw
returns-clause-draw c = shifted _
