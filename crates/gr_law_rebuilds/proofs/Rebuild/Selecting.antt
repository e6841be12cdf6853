-- Selections of lists, and rising lists of numbers by what stands in them.
use Rattle.std.proofs.Common.{◌≡◌, ℕ, List, [], ◌∷◌, ◌++◌, Bool, true, false, ◌==◌, ◌&&◌, ◌||◌, map, filter, filter_map, flat_map, refl, sym, ap, ◌∙◌, subst, arith, inl, inr, Option, Some, None, if◌then◌else◌, eq-eqb, ne_eqb, le-ltb, lt-ltb}
use Rattle.std.specs.List.{AllByRecursion as Each, cons_option, fold, list_any}
use Rattle.std.proofs.lemmas.Bool.{and_left, cases_order}
use Rattle.std.proofs.Math.Bool.{or-false, or_assoc}
use Rattle.gr_base.specs.Rising.{RisesBy, has, with_item}
use Rattle.gr_base.specs.Places.{with_place}
use Rattle.gr_base.proofs.Rising.{rises-nil, with-rises}
use Rattle.gr_base.proofs.WithPlace.{has-with_place}
use Rattle.gr_log.specs.Directory.{rising}
use Rattle.gr_lists.proofs.Tests.{by_test}
use Rattle.gr_lists.proofs.Any.{list_any-filter, list_any-none, list_any-or}
use Rattle.gr_lists.proofs.Each.{Each-always}

module _ {X : Type 0} where
  pub filter-agree : (p q : X → Bool) (xs : List X) → Each (λ x. p x ≡ q x) xs → filter p xs ≡ filter q xs
  filter-agree p q [] h = refl
  filter-agree p q (x ∷ xs) h = by_test (q x)
      (λ e. let e' : p x ≡ true = h.0 ∙ e in rw (e, e') (ap (λ l. x ∷ l) (filter-agree p q xs h.1)))
      (λ e. let e' : p x ≡ false = h.0 ∙ e in rw (e, e') (filter-agree p q xs h.1))

  -- two selections one after another as one
  pub filter-both : (p q : X → Bool) (xs : List X) → filter p (filter q xs) ≡ filter (λ x. q x && p x) xs
  filter-both p q [] = refl
  filter-both p q (x ∷ xs) = by_test (q x)
      (λ e. rw e (by_test (p x)
      (λ k. rw k (ap (λ l. x ∷ l) (filter-both p q xs)))
      (λ k. rw k (filter-both p q xs))))
      (λ e. rw e (filter-both p q xs))

  pub any-filter : (f p : X → Bool) (xs : List X) → list_any f (filter p xs) ≡ list_any (λ x. p x && f x) xs
  any-filter f p xs = list_any-filter f (λ x. p x && f x) p xs (Each-always _ (λ x. ((λ e. sym (ap (λ b. b && f x) e)), (λ e. and_left _ _ e))) xs)

module _ {X Y : Type 0} where
  pub any-map : (f : Y → Bool) (g : X → Y) (xs : List X) → list_any f (map g xs) ≡ list_any (λ x. f (g x)) xs
  any-map f g [] = refl
  any-map f g (x ∷ xs) = ap (λ b. f (g x) || b) (any-map f g xs)

  -- a choice that takes each element
  pub filter_map-each : (f : X → Option Y) (g : X → Y) (xs : List X) → Each (λ x. f x ≡ Some (g x)) xs → filter_map f xs ≡ map g xs
  filter_map-each f g [] h = refl
  filter_map-each f g (x ∷ xs) h = ap (λ o. cons_option o (filter_map f xs)) h.0 ∙ ap (λ l. g x ∷ l) (filter_map-each f g xs h.1)

  -- one that takes none
  pub filter_map-none : (f : X → Option Y) (xs : List X) → Each (λ x. f x ≡ None) xs → filter_map f xs ≡ []
  filter_map-none f [] h = refl
  filter_map-none f (x ∷ xs) h = ap (λ o. cons_option o (filter_map f xs)) h.0 ∙ filter_map-none f xs h.1

  -- a map of a selection as a choice
  pub map-filter_is : (g : X → Y) (p : X → Bool) (xs : List X) → map g (filter p xs) ≡ filter_map (λ x. if p x then Some (g x) else None) xs
  map-filter_is g p [] = refl
  map-filter_is g p (x ∷ xs) = by_test (p x)
      (λ e. rw e (ap (λ l. g x ∷ l) (map-filter_is g p xs)))
      (λ e. rw e (map-filter_is g p xs))

  pub flat_map-agree : (f g : X → List Y) (xs : List X) → Each (λ x. f x ≡ g x) xs → flat_map f xs ≡ flat_map g xs
  flat_map-agree f g [] h = refl
  flat_map-agree f g (x ∷ xs) h = λ i. h.0 i ++ flat_map-agree f g xs h.1 i

  -- some element passes with some other
  pub any-swap : (f : X → Y → Bool) (xs : List X) (ys : List Y) → list_any (λ x. list_any (f x) ys) xs ≡ list_any (λ y. list_any (λ x. f x y) xs) ys
  any-swap f [] ys = sym (list_any-none _ ys (Each-always _ (λ y. refl) ys))
  any-swap f (x ∷ xs) ys = ap (λ b. list_any (f x) ys || b) (any-swap f xs ys) ∙ sym (list_any-or (f x) (λ y. list_any (λ x. f x y) xs) ys)

-- ---- rising lists of numbers

pub with_place-item : (ps : List ℕ) (p : ℕ) → with_place ps p ≡ with_item (λ q. q) p ps
with_place-item [] p = refl
with_place-item (q ∷ qs) p = elim (cases_order q p) [
  | inl same ↦ rw (le-ltb p q (omega arith), le-ltb q p (omega arith), eq-eqb q p same) (ap (λ x. x ∷ qs) same)
  | inr o ↦ elim o [
    | inl lt ↦ rw (lt-ltb q p lt, le-ltb p q (omega arith)) (ap (λ r. q ∷ r) (with_place-item qs p))
    | inr gt ↦ rw (lt-ltb p q gt, le-ltb q p (omega arith), ne_eqb q p (λ e. omega arith)) refl
  ]
]

placed-rise : (xs ps : List ℕ) → RisesBy (λ n. n) ps → RisesBy (λ n. n) (fold with_place ps xs)
placed-rise [] ps r = r
placed-rise (x ∷ xs) ps r = placed-rise xs (with_place ps x) (subst (RisesBy (λ n. n)) (sym (with_place-item ps x)) (with-rises (λ n. n) x ps r))

placed-has : (xs ps : List ℕ) (v : ℕ) → has (fold with_place ps xs) v ≡ (has ps v || has xs v)
placed-has [] ps v = sym (or-false (has ps v))
placed-has (x ∷ xs) ps v = placed-has xs (with_place ps x) v ∙ (ap (λ b. b || has xs v) (has-with_place ps x v) ∙ or_assoc (has ps v) (x == v) (has xs v))

pub rising-rises : (xs : List ℕ) → RisesBy (λ n. n) (rising xs)
rising-rises xs = placed-rise xs [] (rises-nil (λ n. n))

pub has-rising : (xs : List ℕ) (v : ℕ) → has (rising xs) v ≡ has xs v
has-rising xs v = placed-has xs [] v
