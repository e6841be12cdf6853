use Rattle.std.proofs.Common.{IsTrue, eqb}
use Rattle.gr_high.proofs.Selected.{found-All}
use Rattle.gr_high.proofs.partial.join_partials.Goals as goal

pub join-requires-clause-b : goal.join-requires-clause-b
join-requires-clause-b g c =
    found-All (λ x. eqb x.vertex c.args.v) (λ x. IsTrue ((g.P.VertexProgram.program_of c.args.program.now).is_acc x.acc)) c.args.parts.now c.in-Some.part c.requires.parts c.in-Some.ensures
