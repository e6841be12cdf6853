use Rattle.gr_law_rebuilds.proofs.Restore.Commit.{rebuild-commits}
use Rattle.gr_law_rebuilds.proofs.a_rebuild_commits.Goals as goal

pub returns : goal.returns
returns g c = λ P laws t c e agree commits rebuild. rebuild-commits P t c e agree commits rebuild
