-- The two elements beside a position say that it is where those below a number end.
use Rattle.std.proofs.Common.{◌≡◌, ◌<◌, ◌≤◌, ◌-◌, ℕ, List, length, get_or, ltb, arith}
use Rattle.std.specs.List.{prefix_len}
use Rattle.std.specs.List.Sorted.{IsNonDecreasingBy}
use Rattle.std.proofs.lemmas.Bool.{lt-ltb, le-ltb}
use Rattle.std.proofs.lemmas.List.Sums.{prefix_len_is}

module _ {X : Type 0} (key : X → ℕ) where
  pub prefix-between : (v : ℕ) (xs : List X) (i : ℕ) (d : X) → IsNonDecreasingBy key xs → i ≤ length xs
      → (0 < i → key (get_or xs (i - 1) d) < v) → (i < length xs → v ≤ key (get_or xs i d)) → prefix_len (λ x. ltb (key x) v) xs ≡ i
  prefix-between v xs i d r le lower upper = prefix_len_is (λ x. ltb (key x) v) xs i d le
      (λ k l. let low = lower (omega arith) in let q = r k (i - 1) d (omega arith) (omega arith) in lt-ltb (key (get_or xs k d)) v (omega arith))
      (λ l. le-ltb (key (get_or xs i d)) v (upper l))
