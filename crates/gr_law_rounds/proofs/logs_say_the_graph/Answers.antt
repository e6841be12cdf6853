use Rattle.gr_law_rounds.proofs.Logs.Logged.{graph-in}
use Rattle.gr_law_rounds.proofs.logs_say_the_graph.Goals as goal

pub returns : goal.returns
returns g c = λ P t c agree. graph-in P t c agree
