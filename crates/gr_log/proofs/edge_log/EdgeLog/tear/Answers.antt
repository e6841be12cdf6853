use Rattle.std.proofs.Common.{◌≡◌, ◌∙◌, ◌-◌, ◌≤◌, ℕ, List, length, ap, sym, arith}
use Rattle.std.proofs.Math.Nat.{min-eq_left, min-eq_right}
use Rattle.gr_log.specs.Log.{torn_log, tail_size}
use Rattle.gr_log.specs.Reading.{log_in}
use Rattle.gr_log.proofs.Logs.{tear-log, tear-all, tail-length}
use Rattle.gr_log.proofs.edge_log.EdgeLog.tear.Goals as goal

pub returns-then-keep-tail-clause-log : goal.returns-then-keep-tail-clause-log
returns-then-keep-tail-clause-log c =
    let bs = c.self.inside.bytes.items in
    let n = c.self.inside.committed in
    let long : c.len.result ≡ length bs = c.len.ensures ∙ c.self.inside.bytes.ok.0 in
    sym c.self.view_is ∙ tear-all bs n c.self.invariant c.args.keep (omega arith) ∙ ap (torn_log c.args.keep) c.self.view_is

pub returns-then-keep-tail-clause-kept : goal.returns-then-keep-tail-clause-kept
returns-then-keep-tail-clause-kept c =
    let bs = c.self.inside.bytes.items in
    let n = c.self.inside.committed in
    let long : c.len.result ≡ length bs = c.len.ensures ∙ c.self.inside.bytes.ok.0 in
    let tail : tail_size c.args.self.now ≡ length bs - n = sym (ap tail_size c.self.view_is) ∙ tail-length bs n c.self.invariant in
    let le : tail_size c.args.self.now ≤ c.args.keep = omega arith in
    let is : c.len.result - n ≡ tail_size c.args.self.now = omega arith in
    is ∙ sym (min-eq_right le)

pub returns-clause-log : goal.returns-clause-log
returns-clause-log c =
    ap (λ (bs : List ℕ). log_in bs c.self.inside.committed) c.truncate.ensures.items
    ∙ tear-log c.self.inside.bytes.items c.self.inside.committed c.self.invariant c.args.keep ∙ ap (torn_log c.args.keep) c.self.view_is

pub returns-clause-kept : goal.returns-clause-kept
returns-clause-kept c =
    let bs = c.self.inside.bytes.items in
    let n = c.self.inside.committed in
    let long : c.len.result ≡ length bs = c.len.ensures ∙ c.self.inside.bytes.ok.0 in
    let tail : tail_size c.args.self.now ≡ length bs - n = sym (ap tail_size c.self.view_is) ∙ tail-length bs n c.self.invariant in
    let le : c.args.keep ≤ tail_size c.args.self.now = omega arith in
    sym (min-eq_left le)
