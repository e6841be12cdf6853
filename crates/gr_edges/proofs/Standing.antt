-- Where a number stands in a list that rises by it.
use Rattle.std.proofs.Common.{◌≡◌, ℕ, ◌<◌, ltb, List, length, get_or, arith}
use Rattle.std.specs.List.{prefix_len}
use Rattle.std.proofs.lemmas.Bool.{lt-ltb, le-ltb}
use Rattle.std.proofs.lemmas.List.Sums.{prefix_len_is}
use Rattle.gr_base.specs.Rising.{RisesBy}

-- as many stand before the place of a number as are below it
pub prefix_len-at : {X : Type 0} (key : X → ℕ) (v : ℕ) (xs : List X) (i : ℕ) (d : X) → RisesBy key xs → i < length xs → key (get_or xs i d) ≡ v → prefix_len (λ x. ltb (key x) v) xs ≡ i
prefix_len-at {X} key v xs i d rise below at =
    prefix_len_is (λ (x : X). ltb (key x) v) xs i d (omega arith) (λ k lt. lt-ltb _ _ (omega (arith, rise k i d lt below, at))) (λ _. le-ltb _ _ (omega (arith, at)))
