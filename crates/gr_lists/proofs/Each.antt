-- What each element of a list meets, through an append, a filter and a removal.
use Rattle.std.proofs.Common.{◌≡◌, ℕ, zero, suc, List, [], ◌∷◌, ◌++◌, Bool, true, filter, refl, Some, slice_get, remove, eq-eqb}
use Rattle.std.specs.List.{AllByRecursion as Each}
use Rattle.std.proofs.lemmas.Bool.{or_left, or_right}
use Rattle.gr_base.specs.Rising.{has}
use Rattle.gr_lists.proofs.Tests.{by_test}

module _ {X : Type 0} (Q : X → Type 0) where
  pub Each-append : (xs ys : List X) → Each Q xs → Each Q ys → Each Q (xs ++ ys)
  Each-append [] ys h k = k
  Each-append (x ∷ xs) ys h k = (h.0, Each-append xs ys h.1 k)

  pub Each-remove : (xs : List X) (i : ℕ) → Each Q xs → Each Q (remove xs i)
  Each-remove [] zero h = tt
  Each-remove [] (suc i) h = tt
  Each-remove (x ∷ xs) zero h = h.1
  Each-remove (x ∷ xs) (suc i) h = (h.0, Each-remove xs i h.1)

  pub Each-get : (b : X) (xs : List X) (i : ℕ) → slice_get xs i ≡ Some b → Each Q xs → Q b
  Each-get b [] i e h = absurd (cc)
  Each-get b (x ∷ xs) zero e h = let same : x ≡ b = cc in rw (← same) h.0
  Each-get b (x ∷ xs) (suc i) e h = Each-get b xs i e h.1

  pub Each-filter : (f : X → Bool) (xs : List X) → Each Q xs → Each Q (filter f xs)
  Each-filter f [] h = tt
  Each-filter f (x ∷ xs) h = by_test (f x)
      (λ k. rw k (h.0, Each-filter f xs h.1))
      (λ k. rw k (Each-filter f xs h.1))

module _ {X : Type 0} where
  pub Each-weaker : (Q R : X → Type 0) → ((x : X) → Q x → R x) → (xs : List X) → Each Q xs → Each R xs
  Each-weaker Q R f [] h = tt
  Each-weaker Q R f (x ∷ xs) h = (f x h.0, Each-weaker Q R f xs h.1)

  pub Each-both : (P Q R : X → Type 0) → ((x : X) → P x → Q x → R x) → (xs : List X) → Each P xs → Each Q xs → Each R xs
  Each-both P Q R f [] h k = tt
  Each-both P Q R f (x ∷ xs) h k = (f x h.0 k.0, Each-both P Q R f xs h.1 k.1)

  pub Each-always : (P : X → Type 0) → ((x : X) → P x) → (xs : List X) → Each P xs
  Each-always P f [] = tt
  Each-always P f (x ∷ xs) = (f x, Each-always P f xs)

  pub Each-passes : (f : X → Bool) (xs : List X) → Each (λ x. f x ≡ true) (filter f xs)
  Each-passes f [] = tt
  Each-passes f (x ∷ xs) = by_test (f x)
      (λ k. rw k (k, Each-passes f xs))
      (λ k. rw k (Each-passes f xs))

-- each number of a list, with the fact that it stands there
pub Each-has : (P : ℕ → Type 0) (xs : List ℕ) → ((v : ℕ) → has xs v ≡ true → P v) → Each P xs
Each-has P [] f = tt
Each-has P (x ∷ xs) f = (
  f x (or_left _ _ (eq-eqb x x refl)),
  Each-has P xs (λ v m. f v (or_right _ _ m)),
)
