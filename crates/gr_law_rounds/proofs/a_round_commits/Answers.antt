use Rattle.gr_law_rounds.proofs.Commit.Commit.{round-commits}
use Rattle.gr_law_rounds.proofs.a_round_commits.Goals as goal

pub returns : goal.returns
returns g c = λ P laws t c e agree commits round. round-commits P laws t c e agree commits round
