-- Filters and maps one after another, as one selection of the whole list.
use Rattle.std.proofs.Common.{◌≡◌, ℕ, List, [], ◌∷◌, ◌++◌, Bool, true, false, not, ◌==◌, ◌&&◌, map, filter, filter_map, find, refl, sym, ap, ◌∙◌, Option, Some, None, if◌then◌else◌, eq-eqb, eqb-true}
use Rattle.std.specs.List.{AllByRecursion as Each, cons_option}
use Rattle.std.proofs.lemmas.Bool.{false_from_ne_true, both_ways}
use Rattle.gr_base.specs.Rising.{has}
use Rattle.gr_lists.proofs.Tests.{by_test, by_option}
use Rattle.gr_lists.proofs.Choices.{or_else, if-same}

module _ {X Y : Type 0} where
  -- two functions that agree at each element that is kept
  pub map-filter-agree : (f g : X → Y) (p : X → Bool) (xs : List X) → Each (λ x. p x ≡ true → f x ≡ g x) xs → map f (filter p xs) ≡ map g (filter p xs)
  map-filter-agree f g p [] h = refl
  map-filter-agree f g p (x ∷ xs) h = by_test (p x)
      (λ e. rw e (ap (λ y. y ∷ map f (filter p xs)) (h.0 e) ∙ ap (λ r. g x ∷ r) (map-filter-agree f g p xs h.1)))
      (λ e. rw e (map-filter-agree f g p xs h.1))

  pub map-filter-filter-agree : (f g : X → Y) (p q : X → Bool) (xs : List X) → Each (λ x. q x ≡ true → f x ≡ g x) xs → map f (filter p (filter q xs)) ≡ map g (filter p (filter q xs))
  map-filter-filter-agree f g p q [] h = refl
  map-filter-filter-agree f g p q (x ∷ xs) h = by_test (q x)
      (λ e. rw e (by_test (p x)
      (λ k. rw k (ap (λ y. y ∷ map f (filter p (filter q xs))) (h.0 e) ∙ ap (λ r. g x ∷ r) (map-filter-filter-agree f g p q xs h.1)))
      (λ k. rw k (map-filter-filter-agree f g p q xs h.1))))
      (λ e. rw e (map-filter-filter-agree f g p q xs h.1))

  -- a selection of the images of some elements, as one of the whole list
  pub map-filter-map-filter : (out : Y → X) (h : X → Y) → ((x : X) → out (h x) ≡ x) → (f : Y → Bool) (p g : X → Bool) (xs : List X)
      → Each (λ x. (p x ≡ true → f (h x) ≡ g x) × (p x ≡ false → g x ≡ false)) xs → map out (filter f (map h (filter p xs))) ≡ filter g xs
  map-filter-map-filter out h same f p g [] a = refl
  map-filter-map-filter out h same f p g (x ∷ xs) a = by_test (p x)
      (λ k. by_test (g x)
      (λ m. let m' : f (h x) ≡ true = a.0.0 k ∙ m in rw (k, m, m') (ap (λ y. y ∷ map out (filter f (map h (filter p xs)))) (same x) ∙ ap (λ r. x ∷ r) (map-filter-map-filter out h same f p g xs a.1)))
      (λ m. let m' : f (h x) ≡ false = a.0.0 k ∙ m in rw (k, m, m') (map-filter-map-filter out h same f p g xs a.1)))
      (λ k. rw (k, a.0.1 k) (map-filter-map-filter out h same f p g xs a.1))

module _ {X Y Z : Type 0} where
  pub filter_map-map-filter : (f : Y → Option Z) (h : X → Y) (k : X → Option Z) (p : X → Bool) (xs : List X)
      → Each (λ x. (p x ≡ true → f (h x) ≡ k x) × (p x ≡ false → k x ≡ None)) xs → filter_map f (map h (filter p xs)) ≡ filter_map k xs
  filter_map-map-filter f h k p [] a = refl
  filter_map-map-filter f h k p (x ∷ xs) a = by_test (p x)
      (λ e. rw e (ap (λ y. cons_option y (filter_map f (map h (filter p xs)))) (a.0.0 e) ∙ ap (cons_option (k x)) (filter_map-map-filter f h k p xs a.1)))
      (λ e. rw (e, a.0.1 e) (filter_map-map-filter f h k p xs a.1))

  pub map-map-filter : (f : Y → Z) (g : X → Y) (h : X → Z) (p : X → Bool) (xs : List X) → Each (λ x. p x ≡ true → f (g x) ≡ h x) xs → map f (map g (filter p xs)) ≡ map h (filter p xs)
  map-map-filter f g h p [] a = refl
  map-map-filter f g h p (x ∷ xs) a = by_test (p x)
      (λ e. rw e (ap (λ y. y ∷ map f (map g (filter p xs))) (a.0 e) ∙ ap (λ r. h x ∷ r) (map-map-filter f g h p xs a.1)))
      (λ e. rw e (map-map-filter f g h p xs a.1))

module _ {X : Type 0} where
  -- a filter that asks for more than one below it
  pub filter-filter-within : (p q : X → Bool) → ((x : X) → p x ≡ true → q x ≡ true) → (xs : List X) → filter p (filter q xs) ≡ filter p xs
  filter-filter-within p q h [] = refl
  filter-filter-within p q h (x ∷ xs) = by_test (q x)
      (λ e. rw e (by_test (p x)
      (λ k. rw k (ap (λ r. x ∷ r) (filter-filter-within p q h xs)))
      (λ k. rw k (filter-filter-within p q h xs))))
      (λ e. let no : p x ≡ false = false_from_ne_true (p x) (λ k. both_ways (q x) e (h x k)) in
      rw (e, no) (filter-filter-within p q h xs))

  pub filter-swap : (p q : X → Bool) (xs : List X) → filter p (filter q xs) ≡ filter q (filter p xs)
  filter-swap p q [] = refl
  filter-swap p q (x ∷ xs) = let ih = filter-swap p q xs in by_test (p x)
      (λ k. by_test (q x)
      (λ e. simp (e, k) (ap (λ r. x ∷ r) ih))
      (λ e. simp (e, k) ih))
      (λ k. by_test (q x)
      (λ e. simp (e, k) ih)
      (λ e. simp (e, k) ih))

  pub find-append : (f : X → Bool) (xs ys : List X) → find f (xs ++ ys) ≡ or_else (find f xs) (find f ys)
  find-append f [] ys = refl
  find-append f (x ∷ xs) ys = by_test (f x)
      (λ k. rw k refl)
      (λ k. rw k (find-append f xs ys))

-- two choices under one test, the first with a further condition that is met
pub if-and-not : {X : Type 0} (c f d : Bool) (x y : X) → f ≡ false → (c ≡ true → x ≡ y) → (if c && not (f && d) then Some x else None) ≡ (if c then Some y else None)
if-and-not true true d x y e h = absurd (let bad : true ≡ false = e in cc)
if-and-not true false d x y e h = ap Some (h refl)
if-and-not false f d x y e h = refl

-- the element of a number among those that a choice by number gives
module _ {X : Type 0} (key : X → ℕ) (N : ℕ → Option X) (named : (u : ℕ) (n : X) → N u ≡ Some n → key n ≡ u) where
  pub find-filter_map : (vs : List ℕ) (v : ℕ) → find (λ n. key n == v) (filter_map N vs) ≡ (if has vs v then N v else None)
  find-filter_map [] v = refl
  find-filter_map (u ∷ vs) v = by_test (u == v)
      (λ e. let same : u ≡ v = eqb-true u v e in by_option (N u)
      (λ k. let none : N v ≡ None = ap N (sym same) ∙ k in rw (k, find-filter_map vs v, e, none) (if-same (has vs v) None))
      (λ n k. let at : (key n == v) ≡ true = eq-eqb _ _ (named u n k ∙ same) in rw (k, at, e) (sym (ap N (sym same) ∙ k))))
      (λ e. by_option (N u)
      (λ k. rw (k, e) (find-filter_map vs v))
      (λ n k. let at : (key n == v) ≡ false = ap (λ x. x == v) (named u n k) ∙ e in rw (k, at, e) (find-filter_map vs v)))
