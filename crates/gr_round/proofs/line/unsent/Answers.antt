use Rattle.std.proofs.Common.{ℕ, List, not, sym, ap, ◌∙◌}
use Rattle.std.specs.Prelude.{slice_get}
use Rattle.gr_base.specs.Rising.{has}
use Rattle.gr_base.proofs.Members.{find-filter}
use Rattle.gr_round.proofs.line.unsent.Goals as goal

pub returns-clause-unsent : goal.returns-clause-unsent
returns-clause-unsent c =
    c.first.ensures.first
    ∙ ap (λ (ps : List ℕ). slice_get ps 0) c.difference.ensures.difference
    ∙ sym (find-filter (λ q. not (has c.args.sent q)) c.args.others)
