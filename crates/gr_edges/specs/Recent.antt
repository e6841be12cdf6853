-- Numbers that were put in lately.
use Rattle.std.specs.Prelude.{◌≡◌, ℕ, ◌^◌, ◌<◌, true, List, length}
use Rattle.std.specs.List.{All}
use Rattle.gr_base.specs.Rising.{RisesBy, has}

-- each slot has a number of the rising list, or none, which is 2 ^ 32 or more
pub record AreRecent (rising recent : List ℕ) : Type 0 where
  pub rise : RisesBy (λ n. n) rising
  pub slots : 0 < length recent
  pub known : All (λ r. r < 2 ^ 32 → has rising r ≡ true) recent
