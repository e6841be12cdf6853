use Rattle.gr_round.specs.Needs.{GathersFit, BringTheSame}
use Rattle.gr_round.proofs.values.bringers.Given as goal

abbrev pub invariant-loop-p : goal.invariant-loop-p
invariant-loop-p g l =
    let p = g.P.VertexProgram.program_of l.given.program.now in
    record {
      sums : BringTheSame p l.given.inbox.now l.party.epoch l.party.others l.senders;
      gathers : GathersFit l.given.inbox.now l.party.epoch l.senders p;
    }
