-- The laws of the program.
use Rattle.std.specs.Prelude.{ℕ, List, refl}
use Rattle.std.proofs.Common.{ap}
use Rattle.gr_program.specs.ProgramLaws.{ProgramLaws}
use Rattle.gr_sum.specs.Amount.{amount}
use Rattle.gr_sum.specs.Laws.Bits.{or-kept, or-assoc, or-comm, or-unit, mask-kept}
use Rattle.gr_sum.specs.Reach.{reach}

pub reach_laws : (seeds : List ℕ) → ProgramLaws (reach seeds)
reach_laws seeds = record {
  start_kept = λ v i o h. mask-kept seeds v;
  unit_kept = refl;
  along_kept = λ x w d kept h. kept;
  join_kept = λ a b h k. or-kept a.0 b.0 h k;
  apply_kept = λ v x a h k. or-kept x.0 a.0 h k;
  assoc = λ a b c _ _ _. ap amount (or-assoc a.0 b.0 c.0);
  comm = λ a b _ _. ap amount (or-comm a.0 b.0);
  unit_left = λ a h. ap amount (or-unit a.0);
  apply_forgets = λ h. absurd (cc h);
  along_stays = λ h. absurd (cc h);
}
