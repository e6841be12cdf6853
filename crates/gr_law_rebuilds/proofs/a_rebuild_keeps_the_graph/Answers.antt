use Rattle.gr_law_rebuilds.proofs.Restore.Commit.{rebuild-graph}
use Rattle.gr_law_rebuilds.proofs.a_rebuild_keeps_the_graph.Goals as goal

pub returns : goal.returns
returns g c = λ P t c e agree commits rebuild. rebuild-graph P t c e agree commits rebuild
