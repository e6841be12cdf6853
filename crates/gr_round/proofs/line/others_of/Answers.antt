use Rattle.std.proofs.Common.{not, eqb, sym, ap, arith}
use Rattle.std.proofs.lemmas.Bool.{ne_eqb}
use Rattle.gr_copies.proofs.Selecting.{filter-all}
use Rattle.gr_round.proofs.line.others_of.Goals as goal

pub returns-else-me-lt64 : goal.returns-else-me-lt64
returns-else-me-lt64 c =
    sym (filter-all (λ q. not (eqb q c.args.me)) c.args.parties (λ k d l. let lt = c.has-places.ensures.places.below k d l in ap not (ne_eqb _ c.args.me (λ e. omega arith))))
