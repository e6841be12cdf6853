-- Maps of lists, and lists of lists.
use Rattle.std.proofs.Common.{◌≡◌, ℕ, ◌<◌, List, [], ◌∷◌, ◌++◌, Bool, Option, length, map, filter, filter_map, flat_map, refl, ap, ◌∙◌, arith}
use Rattle.std.specs.List.{AllByRecursion as Each}
use Rattle.std.proofs.lemmas.List.{length-map, get_or-map}
use Rattle.std.proofs.lemmas.List.Elements.{filter_map-append}
use Rattle.gr_base.specs.Rising.{RisesBy}
use Rattle.gr_lists.proofs.Tests.{by_test}

module _ {X Y : Type 0} where
  pub Each-map : (Q : Y → Type 0) (f : X → Y) (xs : List X) → Each (λ x. Q (f x)) xs → Each Q (map f xs)
  Each-map Q f [] h = tt
  Each-map Q f (x ∷ xs) h = (h.0, Each-map Q f xs h.1)

  pub filter-map : (p : Y → Bool) (f : X → Y) (xs : List X) → filter p (map f xs) ≡ map f (filter (λ x. p (f x)) xs)
  filter-map p f [] = refl
  filter-map p f (x ∷ xs) = by_test (p (f x))
      (λ k. rw k (ap (λ l. f x ∷ l) (filter-map p f xs)))
      (λ k. rw k (filter-map p f xs))

  -- a map rises by a number that it gives each element
  pub map-rises : (f : X → Y) (key : Y → ℕ) (xs : List X) → RisesBy (λ x. key (f x)) xs → RisesBy key (map f xs)
  map-rises f key [] r = λ i j d h l. absurd (omega arith)
  map-rises f key (x ∷ xs) r = λ i j d h l.
      let lj : j < length (x ∷ xs) = rw length-map at l in
      let li : i < length (x ∷ xs) = omega (arith, h, lj) in
      let q = r i j x h lj in
      omega (arith, q, ap key (get_or-map f (x ∷ xs) i x d li), ap key (get_or-map f (x ∷ xs) j x d lj))

  pub rises-map : (f : X → Y) (key : Y → ℕ) (xs : List X) → RisesBy key (map f xs) → RisesBy (λ x. key (f x)) xs
  rises-map f key xs r = λ i j d h l.
      let lj : j < length (map f xs) = rw length-map l in
      let li : i < length xs = omega (arith, h, l) in
      let q = r i j (f d) h lj in
      omega (arith, q, ap key (get_or-map f xs i d (f d) li), ap key (get_or-map f xs j d (f d) l))

module _ {X Y Z : Type 0} where
  pub filter_map-flat_map : (f : Y → Option Z) (g : X → List Y) (xs : List X) → filter_map f (flat_map g xs) ≡ flat_map (λ x. filter_map f (g x)) xs
  filter_map-flat_map f g [] = refl
  filter_map-flat_map f g (x ∷ xs) = filter_map-append f (g x) (flat_map g xs) ∙ ap (λ l. filter_map f (g x) ++ l) (filter_map-flat_map f g xs)
