use Rattle.std.proofs.Common.{◌∙◌, ℕ, List, sym, ap, subst}
use Rattle.gr_log.specs.Reading.{IsLog, log_in}
use Rattle.gr_log.proofs.Logs.{new-is, new-empty}
use Rattle.gr_log.proofs.edge_log.EdgeLog.new.Goals as goal

pub invariant_of-result : goal.invariant_of-result
invariant_of-result c = subst (λ (bs : List ℕ). IsLog bs 0) (sym c.new.ensures.items) new-is

pub returns : goal.returns
returns c = ap (λ (bs : List ℕ). log_in bs 0) c.new.ensures.items ∙ new-empty
