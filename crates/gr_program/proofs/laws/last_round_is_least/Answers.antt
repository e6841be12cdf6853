use Rattle.gr_program.proofs.LastRound.{last_round-least}
use Rattle.gr_program.proofs.laws.last_round_is_least.Goals as goal

pub returns : goal.returns
returns g c = λ p es vs limit. last_round-least p es vs limit
