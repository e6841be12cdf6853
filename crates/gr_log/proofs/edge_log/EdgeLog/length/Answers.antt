use Rattle.std.proofs.Common.{◌≡◌, ◌∙◌, ◌-◌, ap, sym, length}
use Rattle.gr_log.specs.Log.{Log, tail_size}
use Rattle.gr_log.specs.Appending.{committed_size, log_bytes}
use Rattle.gr_log.proofs.Logs.{committed-length, tail-length, log-is}
use Rattle.gr_log.proofs.edge_log.EdgeLog.length.Goals as goal

pub returns-clause-whole : goal.returns-clause-whole
returns-clause-whole c =
    c.len.ensures ∙ c.self.inside.bytes.ok.0
    ∙ ap length (sym (log-is c.self.inside.bytes.items c.self.inside.committed c.self.invariant)) ∙ ap (λ (l : Log). length (log_bytes l)) c.self.view_is

pub returns-clause-tail : goal.returns-clause-tail
returns-clause-tail c =
    let bs = c.self.inside.bytes.items in
    let n = c.self.inside.committed in
    let long : c.len.result ≡ length bs = c.len.ensures ∙ c.self.inside.bytes.ok.0 in
    let front : committed_size c.args.self.now ≡ n = sym (ap committed_size c.self.view_is) ∙ committed-length bs n c.self.invariant in
    (λ i. long i - front i) ∙ sym (tail-length bs n c.self.invariant) ∙ ap tail_size c.self.view_is
