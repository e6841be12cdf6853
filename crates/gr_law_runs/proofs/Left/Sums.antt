-- Sums whose terms fall, and counts of the members of a list.
use Rattle.std.proofs.Common.{◌≡◌, ℕ, ◌+◌, ◌*◌, ◌≤◌, List, [], ◌∷◌, Bool, true, false, cond, not, ◌==◌, refl, arith, length, eq-eqb}
use Rattle.std.specs.Prelude.{sum_by, count_by}
use Rattle.std.specs.List.{list_any}
use Rattle.std.proofs.lemmas.List.Sums.{sum_by-cons, sum_by-le-sum_by, length-filter}
use Rattle.std.proofs.lemmas.Bool.{or_left, or_right}
use Rattle.gr_base.specs.Rising.{has}
use Rattle.gr_base.specs.Places.{without_place}
use Rattle.gr_lists.proofs.Tests.{by_test}

-- no term rises, and each that passes the test falls by d
module _ {X : Type 0} (f g : X → ℕ) (test : X → Bool) (d : ℕ) (no_more : (x : X) → f x ≤ g x) (less : (x : X) → test x ≡ true → f x + d ≤ g x) where
  pub sum_by-falls : (xs : List X) → list_any test xs ≡ true → sum_by f xs + d ≤ sum_by g xs
  sum_by-falls [] m = absurd (let bad : false ≡ true = m in cc)
  sum_by-falls (x ∷ xs) m =
      let a = sum_by-cons f x xs in let b = sum_by-cons g x xs in by_test (test x)
      (λ e. let here = less x e in let rest = sum_by-le-sum_by f g xs no_more in omega (arith, a, b, here, rest))
      (λ e. let m' = rw e at m in let here = no_more x in let rest = sum_by-falls xs m' in omega (arith, a, b, here, rest))

-- every element passes
pub count_by-all : {X : Type 0} (xs : List X) → count_by (λ _. true) xs ≡ length xs
count_by-all [] = refl
count_by-all {X} (x ∷ xs) = let a = sum_by-cons (λ (y : X). cond {A = ℕ} true 1 0) x xs in let ih = count_by-all xs in omega (arith, a, ih)

-- each term is bounded at the members of a list
pub sum_by-bounded : (f : ℕ → ℕ) (m : ℕ) (xs : List ℕ) → ((x : ℕ) → has xs x ≡ true → f x ≤ m) → sum_by f xs ≤ length xs * m
sum_by-bounded f m [] h = omega arith
sum_by-bounded f m (x ∷ xs) h =
    let a = sum_by-cons f x xs in let here = h x (or_left _ _ (eq-eqb x x refl)) in
    let rest = sum_by-bounded f m xs (λ y k. h y (or_right _ _ k)) in omega (arith, a, here, rest)

-- a list without one of its members is shorter
pub without-shorter : (xs : List ℕ) (p : ℕ) → has xs p ≡ true → length (without_place xs p) + 1 ≤ length xs
without-shorter xs p m =
    let kept = length-filter (λ q. not (q == p)) xs in let all = count_by-all xs in
    let fewer = sum_by-falls (λ q. cond {A = ℕ} (not (q == p)) 1 0) (λ q. cond {A = ℕ} true 1 0) (λ q. q == p) 1
    (λ q. by_test (q == p) (λ e. rw e (omega arith)) (λ e. rw e (omega arith)))
    (λ q e. rw e (omega arith)) xs m in
    omega (arith, kept, all, fewer)
