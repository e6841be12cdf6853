use Rattle.gr_log.proofs.Logs.{append-from}
use Rattle.gr_log.proofs.edge_log.EdgeLog.append.Goals as goal

pub returns-clause-ok : goal.returns-clause-ok
returns-clause-ok c =
    append-from c.self.inside.bytes.items c.push_record.new.into.items c.self.inside.committed c.self.invariant c.args.item c.args.self.now c.push_record.result
    c.push_record.ensures.read_again c.push_record.ensures.bytes c.self.view_is c.push_record.ensures.ok
