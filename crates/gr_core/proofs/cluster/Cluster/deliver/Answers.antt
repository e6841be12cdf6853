use Rattle.std.proofs.Common.{◌≡◌, ◌≢◌, ◌∙◌, sym, subst, Some, slice_get}
use Rattle.gr_batch.specs.declared.batch.Batch.{Batch}
use Rattle.gr_sched.specs.declared.event.Event.TheVariants as event
use Rattle.gr_core.specs.Resting.{AreAtRest}
use Rattle.gr_core.proofs.Resting.{rest-after, receiver-is, delivery-elsewhere}
use Rattle.gr_core.proofs.cluster.Cluster.deliver.Goals as goal

-- the places to which nothing came rest as before
pub look_again-requires : goal.look_again-requires
look_again-requires g c = record {
  others = λ q ne here.
      let before = c.args.self.now in
      let P = g.P.VertexProgram.program_of before.program in
      let rest = subst (λ x. AreAtRest x.cluster c.self.inside.resting) c.self.view_is c.self.invariant.resting in
      let away : (b : Batch g.row.P-Value.Denot g.row.P-Acc.Denot) → slice_get before.cluster.flight c.args.i ≡ Some b → q ≢ b.receiver
      = λ b at same. ne (same ∙ receiver-is (slice_get before.cluster.flight c.args.i) c.in-Some.p (sym c.receiver_of-receiver.ensures ∙ c.in-Some.is) b at) in
      rest-after P before.cluster c.deliver_batch.new.self.cluster c.in_ok-outcome.outcome (event.Deliver c.args.i) c.self.inside.resting q (c.in_ok-outcome.ensures.ok)
      (delivery-elsewhere P before.cluster c.args.i q c.requires away) rest here;
}
