use Rattle.std.proofs.Common.{◌∙◌, ap, sym}
use Rattle.gr_log.specs.Appending.{committed_size}
use Rattle.gr_log.proofs.Logs.{committed-length}
use Rattle.gr_log.proofs.edge_log.EdgeLog.committed.Goals as goal

pub returns : goal.returns
returns c = sym (committed-length c.self.inside.bytes.items c.self.inside.committed c.self.invariant) ∙ ap committed_size c.self.view_is
