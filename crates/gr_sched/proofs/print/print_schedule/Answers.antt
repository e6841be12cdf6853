use Rattle.std.proofs.Common.{arith, subst}
use Rattle.std.specs.List.{All}
use Rattle.std.proofs.lemmas.List.{take_all}
use Rattle.gr_sched.specs.Printed.{IsLine}
use Rattle.gr_sched.proofs.ReadBack.{schedule-more, lines-more, read-back}
use Rattle.gr_sched.proofs.print.print_schedule.Goals as goal

pub loop-line-preserved : goal.loop-line-preserved
loop-line-preserved c =
    let ls = c.args.lines.now in
    record {
      told = schedule-more c.loop-line.text.items c.write_line.new.text.items ls c.loop-line.line-index c.line-item.result c.loop-line-test.true c.line-item.is c.loop-line.invariant.told c.in_ok-write_line.ensures.told;
      lines = lines-more ls c.loop-line.line-index c.line-item.result c.loop-line-test.true c.line-item.is c.loop-line.invariant.lines c.in_ok-write_line.ensures.line;
    }

pub returns-clause-read_back : goal.returns-clause-read_back
returns-clause-read_back c =
    let ls = c.args.lines.now in
    let are = subst (All IsLine) (take_all c.loop-line.line-index ls (omega arith)) c.loop-line.invariant.lines in
    λ few places within. read-back places ls are within few
