use Rattle.gr_law_rounds.proofs.Load.Load.{load-holds}
use Rattle.gr_law_rounds.proofs.a_loaded_cluster_agrees.Goals as goal

pub returns : goal.returns
returns g c = λ P laws s es vs setting graph. load-holds P s es vs setting graph
