-- The laws of the program.
use Rattle.std.specs.Prelude.{ℕ, ◌+◌, ◌==◌, refl}
use Rattle.std.proofs.Common.{ap}
use Rattle.gr_program.specs.ProgramLaws.{ProgramLaws}
use Rattle.gr_sum.specs.Laws.Capped.{capped-kept}
use Rattle.gr_min.specs.Distance.{distance}
use Rattle.gr_min.specs.Shortest.{shortest}
use Rattle.gr_min.specs.Laws.Least.{min-kept, min-assoc, min-comm, infinity-min, start-kept}

pub shortest_laws : (source : ℕ) → ProgramLaws (shortest source)
shortest_laws source = record {
  start_kept = λ v i o h. start-kept (v == source);
  unit_kept = refl;
  along_kept = λ x w d k h. capped-kept (x.0 + w);
  join_kept = λ a b h k. min-kept a.0 b.0 h;
  apply_kept = λ v x a h k. min-kept x.0 a.0 h;
  assoc = λ a b c _ _ _. ap distance (min-assoc a.0 b.0 c.0);
  comm = λ a b _ _. ap distance (min-comm a.0 b.0);
  unit_left = λ a h. ap distance (infinity-min a.0 h);
  apply_forgets = λ h. absurd (cc h);
  along_stays = λ h. absurd (cc h);
}
