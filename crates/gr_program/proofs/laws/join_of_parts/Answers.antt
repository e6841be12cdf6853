use Rattle.gr_program.proofs.Totals.{total-parts}
use Rattle.gr_program.proofs.laws.join_of_parts.Goals as goal

pub returns : goal.returns
returns g c = λ p laws parts kept. total-parts laws parts kept
