use Rattle.std.proofs.Common.{◌++◌, codes}
use Rattle.gr_sched.specs.Words.{word}
use Rattle.gr_report.proofs.Appending.{on_ok-append}
use Rattle.gr_report.proofs.trace.write_committed.Goals as goal

pub returns : goal.returns
returns c =
    on_ok-append c.write_next_round.result c.args.line.now.items c.write_named.new.line.items c.write_next_round.new.line.items
    (codes "barrier committed" ++ word c.args.count) (codes " round") (word c.args.round) (codes " due") (word c.args.due) c.in_ok-write_named.ensures c.write_next_round.ensures
