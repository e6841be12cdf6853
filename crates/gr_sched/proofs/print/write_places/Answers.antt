use Rattle.std.proofs.Common.{arith}
use Rattle.gr_sched.specs.Words.{word}
use Rattle.gr_sched.proofs.Below.{told-none, told-more, told-all}
use Rattle.gr_sched.proofs.print.write_places.Goals as goal

pub loop-p-init : goal.loop-p-init
loop-p-init c = record {
  told = told-none word c.args.text.now.items c.args.places;
  places = λ lt. absurd (omega arith);
}

pub loop-p-preserved : goal.loop-p-preserved
loop-p-preserved c = record {
  told = told-more word c.args.text.now.items c.args.places c.loop-p.text.items c.write_member.new.text.items c.loop-p.p c.write_member.ensures.places c.loop-p.invariant.told c.in_ok-write_member.ensures.told;
  places = λ lt. c.write_member.ensures.places;
}

pub returns : goal.returns
returns c = record {
  told = told-all word c.args.text.now.items c.args.places c.loop-p.text.items c.loop-p.p (omega arith) (c.loop-p.invariant.places (omega arith)) c.loop-p.invariant.told;
  places = c.loop-p.invariant.places (omega arith);
}
