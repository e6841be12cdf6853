-- The laws of the program.
use Rattle.std.specs.Prelude.{refl}
use Rattle.std.proofs.Common.{ap}
use Rattle.gr_program.specs.ProgramLaws.{ProgramLaws}
use Rattle.gr_sum.specs.Amount.{amount}
use Rattle.gr_min.specs.Labels.{labels}
use Rattle.gr_min.specs.Laws.Least.{min-kept, min-assoc, min-comm, infinity-min, id-kept}

pub labels_laws : ProgramLaws (labels)
labels_laws = record {
  start_kept = λ v i o h. id-kept v h;
  unit_kept = refl;
  along_kept = λ x w d k h. k;
  join_kept = λ a b h k. min-kept a.0 b.0 h;
  apply_kept = λ v x a h k. min-kept x.0 a.0 h;
  assoc = λ a b c _ _ _. ap amount (min-assoc a.0 b.0 c.0);
  comm = λ a b _ _. ap amount (min-comm a.0 b.0);
  unit_left = λ a h. ap amount (infinity-min a.0 h);
  apply_forgets = λ h. absurd (cc h);
  along_stays = λ h. absurd (cc h);
}
