use Rattle.std.proofs.Common.{arith}
use Rattle.gr_report.proofs.Commas.{datum-more, datum-all}
use Rattle.gr_report.proofs.words.write_datum.Goals as goal

pub loop-i-preserved : goal.loop-i-preserved
loop-i-preserved g c =
    datum-more c.args.line.now.items c.loop-i.line.items c.write_next.new.line.items (g.D.Datum.numbers_of c.args.datum.now) c.loop-i.i c.number_at.result c.number_at.ensures c.loop-i.invariant c.in_ok-write_next.ensures

pub returns : goal.returns
returns g c =
    datum-all c.args.line.now.items c.loop-i.line.items (g.D.Datum.numbers_of c.args.datum.now) c.loop-i.i g.D.Datum.WIDTH (omega arith) (g.met.D.Datum.width c.args.datum.now) c.loop-i.invariant
