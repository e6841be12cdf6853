-- The numbers of a range.
use Rattle.std.proofs.Common.{◌≡◌, ℕ, ◌+◌, ◌-◌, ◌<◌, ◌≤◌, true, eqb, arith}
use Rattle.std.specs.List.{range_with_len}
use Rattle.std.proofs.lemmas.Bool.{eq-eqb}
use Rattle.std.proofs.lemmas.List.Folds.{list_any_at}
use Rattle.std.proofs.lemmas.List.FromFn.{length-range_with_len, get_or-range_with_len}
use Rattle.gr_base.specs.Rising.{RisesBy, has}
use Rattle.gr_base.proofs.PlaceTests.{has-contains}

pub has-range : (a n v : ℕ) → a ≤ v → v < a + n → has (range_with_len a n) v ≡ true
has-range a n v low high =
    let lt : v - a < n = omega arith in
    list_any_at (λ x. eqb x v) (range_with_len a n) (v - a) 0 (omega (arith, length-range_with_len a n)) (eq-eqb _ v (omega (arith, get_or-range_with_len a n (v - a) 0 lt)))

pub range-within : (a n v : ℕ) → has (range_with_len a n) v ≡ true → v < a + n
range-within a n v on =
    let c = has-contains (range_with_len a n) v on in
    let lt : c.0 < n = omega (arith, c.1, length-range_with_len a n) in
    omega (arith, c.2, get_or-range_with_len a n c.0 v lt)

pub range-rises : (a n : ℕ) → RisesBy (λ (v : ℕ). v) (range_with_len a n)
range-rises a n = λ i j d below lt.
    let lj : j < n = omega (arith, length-range_with_len a n) in
    let li : i < n = omega arith in
    omega (arith, get_or-range_with_len a n i d li, get_or-range_with_len a n j d lj)
