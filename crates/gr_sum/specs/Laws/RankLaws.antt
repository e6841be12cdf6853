-- The laws of the program.
use Rattle.std.specs.Prelude.{◌+◌, ◌*◌, ◌/◌, refl}
use Rattle.std.proofs.Common.{ap}
use Rattle.gr_program.specs.ProgramLaws.{ProgramLaws}
use Rattle.gr_sum.specs.declared.amount.Amount.{Amount}
use Rattle.gr_sum.specs.Amount.{amount}
use Rattle.gr_sum.specs.Laws.Capped.{capped-kept}
use Rattle.gr_sum.specs.Laws.Adding.{added-assoc, added-comm, added-unit, divided-kept, same_from_differs}
use Rattle.gr_sum.specs.Rank.{rank}

pub rank_laws : ProgramLaws rank
rank_laws = record {
  start_kept = λ v i o h. refl;
  unit_kept = refl;
  along_kept = λ x w d k h. divided-kept x.0 d k h;
  join_kept = λ a b h k. capped-kept (a.0 + b.0);
  apply_kept = λ v x a h k. capped-kept (150000 + 850000 * a.0 / 1000000);
  assoc = λ a b c _ _ _. added-assoc a b c;
  comm = λ a b _ _. added-comm a b;
  unit_left = λ a h. added-unit a h;
  apply_forgets = λ _ v x y a _ _ _. refl;
  along_stays = λ _ x y _ _ same w d _. ap (λ (z : Amount). amount (z.0 / d)) (same_from_differs x y same);
}
