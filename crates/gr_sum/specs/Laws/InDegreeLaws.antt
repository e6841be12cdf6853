-- The laws of the program.
use Rattle.std.specs.Prelude.{◌+◌, refl}
use Rattle.gr_program.specs.ProgramLaws.{ProgramLaws}
use Rattle.gr_sum.specs.Laws.Capped.{capped-kept}
use Rattle.gr_sum.specs.Laws.Adding.{added-assoc, added-comm, added-unit}
use Rattle.gr_sum.specs.InDegree.{in_degree}

pub in_degree_laws : ProgramLaws in_degree
in_degree_laws = record {
  start_kept = λ v i o h. refl;
  unit_kept = refl;
  along_kept = λ x w d k h. refl;
  join_kept = λ a b h k. capped-kept (a.0 + b.0);
  apply_kept = λ v x a h k. k;
  assoc = λ a b c _ _ _. added-assoc a b c;
  comm = λ a b _ _. added-comm a b;
  unit_left = λ a h. added-unit a h;
  apply_forgets = λ _ v x y a _ _ _. refl;
  along_stays = λ _ x y _ _ _ w d _. refl;
}
