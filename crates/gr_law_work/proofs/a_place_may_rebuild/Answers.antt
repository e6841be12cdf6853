use Rattle.gr_law_work.proofs.Relies.Rebuild.{may-rebuild}
use Rattle.gr_law_work.proofs.a_place_may_rebuild.Goals as goal

pub returns : goal.returns
returns g c = λ P t c p h agree rebuilding at installed now. may-rebuild P t c p h agree rebuilding at installed now
