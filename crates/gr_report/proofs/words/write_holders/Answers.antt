use Rattle.std.proofs.Common.{arith}
use Rattle.gr_report.proofs.Commas.{holders-none, first-none, holders-more, first-more, holders-all}
use Rattle.gr_report.proofs.words.write_holders.Goals as goal

pub loop-p-init : goal.loop-p-init
loop-p-init c = record {
  told = holders-none c.args.line.now.items c.args.holders;
  first = first-none c.args.line.now.items c.args.holders;
  places = λ lt. absurd (omega arith);
}

pub loop-p-preserved : goal.loop-p-preserved
loop-p-preserved c = record {
  told = holders-more c.args.line.now.items c.args.holders c.loop-p.line.items c.write_holder.new.line.items c.loop-p.p c.loop-p.is_first c.write_holder.ensures.places c.loop-p.invariant.told c.loop-p.invariant.first c.in_ok-is_first.ensures.told;
  first = first-more c.args.line.now.items c.args.holders c.loop-p.p c.loop-p.is_first _ c.write_holder.ensures.places c.loop-p.invariant.first c.in_ok-is_first.ensures.first;
  places = λ lt. c.write_holder.ensures.places;
}

pub returns : goal.returns
returns c = holders-all c.args.line.now.items c.args.holders c.loop-p.line.items c.loop-p.p (omega arith) (c.loop-p.invariant.places (omega arith)) c.loop-p.invariant.told
