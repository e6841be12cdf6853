use Rattle.gr_sum.specs.Laws.Bits.{or-kept}
use Rattle.gr_sum.proofs.reach.ReachVertexProgram.join.Goals as goal

pub returns-clause-kept : goal.returns-clause-kept
returns-clause-kept c = or-kept _ _ c.requires.a c.requires.b
