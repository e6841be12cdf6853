-- The laws of the program.
use Rattle.std.specs.Prelude.{ℕ, ◌+◌, ◌&&◌, nat_eq, nat_le, refl}
use Rattle.gr_program.specs.ProgramLaws.{ProgramLaws}
use Rattle.gr_sum.specs.Laws.Capped.{capped-kept}
use Rattle.gr_sum.specs.Laws.Adding.{added-assoc, added-comm, added-unit, choice-kept}
use Rattle.gr_sum.specs.KCore.{k_core}

pub k_core_laws : (k : ℕ) → ProgramLaws (k_core k)
k_core_laws k = record {
  start_kept = λ v i o h. refl;
  unit_kept = refl;
  along_kept = λ x w d kept h. kept;
  join_kept = λ a b h l. capped-kept (a.0 + b.0);
  apply_kept = λ v x a h l. choice-kept (nat_eq x.0 1 && nat_le k a.0);
  assoc = λ a b c _ _ _. added-assoc a b c;
  comm = λ a b _ _. added-comm a b;
  unit_left = λ a h. added-unit a h;
  apply_forgets = λ h. absurd (cc h);
  along_stays = λ h. absurd (cc h);
}
