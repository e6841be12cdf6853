use Rattle.gr_law_work.proofs.Needs.Act.{may-act}
use Rattle.gr_law_work.proofs.a_place_may_act.Goals as goal

pub returns : goal.returns
returns g c = λ P laws t c p h agree at running installed now. may-act P laws t c p h agree at running installed now
