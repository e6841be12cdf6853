use Rattle.std.proofs.Common.{rules}
use Rattle.gr_outside.proofs.Gains.{Gains-more}
use Rattle.gr_outside.proofs.sink.write_whole.Goals as goal

pub loop-rest-preserved : goal.loop-rest-preserved
loop-rest-preserved g c =
    let so_far = c.loop-rest.invariant.gained in
    record {
      unfailed = search rules;
      gained = Gains-more (g.S.Sink.seen c.args.sink.now) (g.S.Sink.seen c.loop-rest.sink) (g.S.Sink.seen c.put.new.self) c.args.bytes.now c.loop-rest.rest.now so_far.0 c.in_ok-count.count so_far.1 so_far.2 c.in_ok-count.ensures.within so_far.3 c.in_ok-count.ensures.gained;
    }
