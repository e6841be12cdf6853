use Rattle.std.proofs.Common.{◌∙◌}
use Rattle.gr_play.proofs.Adding.{Extends-adds, Adds-more}
use Rattle.gr_play.proofs.append.append_whole.Goals as goal

pub loop-rest-preserved : goal.loop-rest-preserved
loop-rest-preserved g c =
    let so_far = c.loop-rest.invariant.so_far in
    let a = g.F.Files.seen c.args.files.now in
    let b = g.F.Files.seen c.loop-rest.files in
    let d = g.F.Files.seen c.append.new.self in
    record {
      begun = c.in_ok-count.ensures.begun ∙ c.loop-rest.invariant.begun;
      so_far = Adds-more a b d c.args.bytes.now c.loop-rest.rest.now so_far.0 c.in_ok-count.count so_far.1 so_far.2 c.in_ok-count.ensures.within so_far.3
          (Extends-adds b d c.loop-rest.rest.now c.in_ok-count.count c.in_ok-count.ensures);
    }
