use Rattle.std.proofs.Common.{subst}
use Rattle.gr_sched.specs.declared.event.Event.TheVariants as event
use Rattle.gr_core.specs.Resting.{AreAtRest}
use Rattle.gr_core.proofs.Resting.{rest-after, work-elsewhere}
use Rattle.gr_core.proofs.cluster.Cluster.work.Goals as goal

-- the other places rest as before
pub look_again-requires : goal.look_again-requires
look_again-requires g c = record {
  others = λ q ne here.
      let before = c.args.self.now in
      let P = g.P.VertexProgram.program_of before.program in
      let rest = subst (λ x. AreAtRest x.cluster c.self.inside.resting) c.self.view_is c.self.invariant.resting in
      rest-after P before.cluster c.work_at.new.self.cluster c.in_ok-outcome.outcome (event.Work c.args.p) c.self.inside.resting q (c.in_ok-outcome.ensures.ok)
      (work-elsewhere P before.cluster c.args.p q c.requires.going ne) rest here;
}
