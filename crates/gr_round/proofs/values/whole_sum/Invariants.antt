use Rattle.std.proofs.Common.{◌≡◌, ◌<◌, ltb}
use Rattle.std.specs.Prelude.{IsTrue}
use Rattle.std.specs.List.{filter}
use Rattle.gr_base.specs.Places.{IsPlaces}
use Rattle.gr_batch.specs.declared.stage.Stage.TheVariants as stage
use Rattle.gr_rules.specs.Inbox.{bodies}
use Rattle.gr_rules.specs.Round.{own_sum}
use Rattle.gr_round.proofs.Sums.{joined}
use Rattle.gr_round.proofs.values.whole_sum.Given as goal

abbrev pub invariant-loop-p : goal.invariant-loop-p
invariant-loop-p g l =
    let p = g.P.VertexProgram.program_of l.given.program.now in
    record {
      places : 0 < l.p → IsPlaces l.senders;
      sum : l.sum ≡ joined p l.v (own_sum p l.rows.stable l.given.arcs.now.stable l.v) (bodies l.given.inbox.now l.epoch stage.Gather (filter (λ q. ltb q l.p) l.senders));
      kept : IsTrue (p.is_acc l.sum);
    }
