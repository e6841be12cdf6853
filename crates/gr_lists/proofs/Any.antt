-- Whether some element passes a test.
use Rattle.std.proofs.Common.{◌≡◌, ℕ, List, [], ◌∷◌, Bool, true, false, ◌==◌, ◌&&◌, ◌||◌, filter, find, flat_map, refl, sym, ap, ◌∙◌, Some, None, eq-eqb, eqb-true}
use Rattle.std.specs.List.{AllByRecursion as Each, list_any}
use Rattle.std.proofs.Math.Bool.{and-true}
use Rattle.std.proofs.lemmas.Bool.{both_ways, and_right, or_left, or_right}
use Rattle.std.proofs.lemmas.List.Folds.{list_any-append}
use Rattle.gr_base.specs.Rising.{has}
use Rattle.gr_lists.proofs.Tests.{by_test}
use Rattle.gr_lists.proofs.Choices.{or-exchange}
use Rattle.gr_lists.proofs.Each.{Each-always}

module _ {X : Type 0} where
  pub list_any-none : (f : X → Bool) (xs : List X) → Each (λ x. f x ≡ false) xs → list_any f xs ≡ false
  list_any-none f [] h = refl
  list_any-none f (x ∷ xs) h = rw h.0 (list_any-none f xs h.1)

  pub list_any-agree : (f g : X → Bool) (xs : List X) → Each (λ x. f x ≡ g x) xs → list_any f xs ≡ list_any g xs
  list_any-agree f g [] h = refl
  list_any-agree f g (x ∷ xs) h = rw (h.0, list_any-agree f g xs h.1) refl

  pub list_any-filter : (f g p : X → Bool) (xs : List X) → Each (λ x. (p x ≡ true → f x ≡ g x) × (p x ≡ false → g x ≡ false)) xs → list_any f (filter p xs) ≡ list_any g xs
  list_any-filter f g p [] h = refl
  list_any-filter f g p (x ∷ xs) h = by_test (p x)
      (λ k. rw (k, h.0.0 k, list_any-filter f g p xs h.1) refl)
      (λ k. rw (k, h.0.1 k) (list_any-filter f g p xs h.1))

  pub list_any-filter_none : (f p : X → Bool) (xs : List X) → Each (λ x. p x ≡ true → f x ≡ false) xs → list_any f (filter p xs) ≡ false
  list_any-filter_none f p [] h = refl
  list_any-filter_none f p (x ∷ xs) h = by_test (p x)
      (λ k. rw (k, h.0 k) (list_any-filter_none f p xs h.1))
      (λ k. rw k (list_any-filter_none f p xs h.1))

  -- a part of the test that does not look at the element
  pub list_any-and : (f : X → Bool) (w : Bool) (xs : List X) → list_any (λ x. f x && w) xs ≡ (list_any f xs && w)
  list_any-and f w [] = refl
  list_any-and f true xs = list_any-agree (λ x. f x && true) f xs (Each-always _ (λ x. and-true (f x)) xs) ∙ sym (and-true (list_any f xs))
  list_any-and f false xs = list_any-none _ xs (Each-always _ (λ x. and_right (f x) false refl) xs) ∙ sym (and_right (list_any f xs) false refl)

  pub list_any-or : (f g : X → Bool) (xs : List X) → list_any (λ x. f x || g x) xs ≡ (list_any f xs || list_any g xs)
  list_any-or f g [] = refl
  list_any-or f g (x ∷ xs) = ap (λ b. (f x || g x) || b) (list_any-or f g xs) ∙ or-exchange (f x) (g x) (list_any f xs) (list_any g xs)

  -- the element that a test finds, with what is known of each
  pub find-any : (f : X → Bool) (Q : X → Type 0) (xs : List X) → list_any f xs ≡ true → Each Q xs → (x : X) × (find f xs ≡ Some x) × (f x ≡ true) × Q x
  find-any f Q [] e h = absurd (let bad : false ≡ true = e in cc)
  find-any f Q (x ∷ xs) e h = by_test (f x)
      (λ k. (x, (rw k refl), k, h.0))
      (λ k. let r = find-any f Q xs (rw k at e) h.1 in (r.0, (rw k r.1), r.2, r.3))

  pub find-none : (f : X → Bool) (xs : List X) → list_any f xs ≡ false → find f xs ≡ None
  find-none f [] h = refl
  find-none f (x ∷ xs) h = by_test (f x)
      (λ k. absurd (let bad = rw k at h in both_ways _ bad refl))
      (λ k. let h' = rw k at h in rw k (find-none f xs h'))

  pub filter-none : (f : X → Bool) (xs : List X) → list_any f xs ≡ false → filter f xs ≡ []
  filter-none f [] h = refl
  filter-none f (x ∷ xs) h = by_test (f x)
      (λ k. absurd (let bad = rw k at h in both_ways _ bad refl))
      (λ k. let h' = rw k at h in rw k (filter-none f xs h'))

module _ {X Y : Type 0} where
  pub list_any-flat_map : (f : Y → Bool) (g : X → List Y) (xs : List X) → list_any f (flat_map g xs) ≡ list_any (λ x. list_any f (g x)) xs
  list_any-flat_map f g [] = refl
  list_any-flat_map f g (x ∷ xs) = list_any-append f (g x) (flat_map g xs) ∙ ap (λ b. list_any f (g x) || b) (list_any-flat_map f g xs)

pub has-filter : (f : ℕ → Bool) (xs : List ℕ) (v : ℕ) → has (filter f xs) v ≡ (has xs v && f v)
has-filter f [] v = refl
has-filter f (x ∷ xs) v = by_test (x == v)
    (λ e. let same : x ≡ v = eqb-true x v e in by_test (f x)
    (λ k. let k' : f v ≡ true = ap f (sym same) ∙ k in rw (k, e, k') refl)
    (λ k. let k' : f v ≡ false = ap f (sym same) ∙ k in rw (k, e, has-filter f xs v, k') (and_right (has xs v) false refl)))
    (λ e. by_test (f x)
    (λ k. rw (k, e) (has-filter f xs v))
    (λ k. rw (k, e) (has-filter f xs v)))

pub eqb-sym : (a b : ℕ) → (a == b) ≡ (b == a)
eqb-sym a b = by_test (a == b)
    (λ e. rw e (sym (eq-eqb b a (sym (eqb-true a b e)))))
    (λ e. by_test (b == a)
    (λ k. absurd (both_ways _ e (eq-eqb a b (sym (eqb-true b a k)))))
    (λ k. rw (e, k) refl))

-- a number among others, by the test turned round
pub list_any-is : (m : ℕ) (qs : List ℕ) → list_any (λ q. m == q) qs ≡ has qs m
list_any-is m qs = list_any-agree _ _ qs (Each-always _ (λ q. eqb-sym m q) qs)

-- what a search that finds nothing says of each number, and what one says that finds one
pub find-none_of : (f : ℕ → Bool) (xs : List ℕ) (q : ℕ) → find f xs ≡ None → has xs q ≡ true → f q ≡ false
find-none_of f [] q h m = absurd (let bad : false ≡ true = m in cc)
find-none_of f (x ∷ xs) q h m = by_test (f x)
    (λ k. absurd (let bad = rw k at h in cc))
    (λ k. let h' = rw k at h in by_test (x == q)
    (λ e. ap f (sym (eqb-true x q e)) ∙ k)
    (λ e. let m' : has xs q ≡ true = rw e at m in find-none_of f xs q h' m'))

pub find-one_of : (f : ℕ → Bool) (xs : List ℕ) (q : ℕ) → find f xs ≡ Some q → (f q ≡ true) × (has xs q ≡ true) × (list_any f xs ≡ true)
find-one_of f [] q h = absurd (cc)
find-one_of f (x ∷ xs) q h = by_test (f x)
    (λ k. let h' = rw k at h in let same : x ≡ q = cc in (ap f (sym same) ∙ k, or_left _ _ (eq-eqb x q same), or_left _ _ k))
    (λ k. let h' = rw k at h in let r = find-one_of f xs q h' in (r.0, or_right _ _ r.1, or_right _ _ r.2))
