use Rattle.std.proofs.Common.{◌≡◌, ◌∙◌, [], ap, sym, subst, length, ℕ, drop}
use Rattle.gr_log.specs.Log.{Log, committed_log}
use Rattle.gr_log.specs.Reading.{IsLog, log_in, read}
use Rattle.gr_log.proofs.Logs.{commit-is, commit-log}
use Rattle.gr_log.proofs.edge_log.EdgeLog.commit.Goals as goal

pub invariant_of-self : goal.invariant_of-self
invariant_of-self c =
    let bs = c.self.inside.bytes.items in
    let none : (read (drop c.self.inside.committed bs)).1 ≡ [] = ap (λ (l : Log). l.torn) c.self.view_is ∙ c.requires in
    let end : c.len-self-inside.result ≡ length bs = c.len-self-inside.ensures ∙ c.self.inside.bytes.ok.0 in
    subst (λ (n : ℕ). IsLog bs n) (sym end) (commit-is bs c.self.inside.committed c.self.invariant none)

pub returns : goal.returns
returns c =
    let bs = c.self.inside.bytes.items in
    let none : (read (drop c.self.inside.committed bs)).1 ≡ [] = ap (λ (l : Log). l.torn) c.self.view_is ∙ c.requires in
    let end : c.len-self-inside.result ≡ length bs = c.len-self-inside.ensures ∙ c.self.inside.bytes.ok.0 in
    ap (λ (n : ℕ). log_in bs n) end ∙ commit-log bs c.self.inside.committed c.self.invariant none ∙ ap committed_log c.self.view_is
