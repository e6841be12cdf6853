use Rattle.std.proofs.Common.{◌∙◌, ℕ, List, ap}
use Rattle.gr_log.specs.Log.{cut_log}
use Rattle.gr_log.specs.Reading.{log_in}
use Rattle.gr_log.proofs.Logs.{cut-is_log}
use Rattle.gr_log.proofs.edge_log.EdgeLog.cut_tail.Goals as goal

pub returns : goal.returns
returns c =
    ap (λ (bs : List ℕ). log_in bs c.self.inside.committed) c.truncate.ensures.items
    ∙ cut-is_log c.self.inside.bytes.items c.self.inside.committed c.self.invariant ∙ ap cut_log c.self.view_is
