-- How many elements pass a test, through an append, a filter and a removal.
use Rattle.std.proofs.Common.{◌≡◌, ℕ, zero, suc, ◌+◌, ◌<◌, ◌≤◌, List, [], ◌∷◌, ◌++◌, Bool, true, false, cond, ◌&&◌, ◌||◌, map, filter, refl, ap, sym, ◌∙◌, arith, Some, slice_get, remove}
use Rattle.std.specs.Prelude.{count_by}
use Rattle.std.specs.List.{AllByRecursion as Each, list_any}
use Rattle.std.proofs.lemmas.Bool.{or_parts}
use Rattle.std.proofs.lemmas.List.Sums.{sum_by-append, sum_by-cons}
use Rattle.gr_lists.proofs.Tests.{by_test}

module _ {X : Type 0} (f : X → Bool) where
  abbrev pub one_if : X → ℕ
  one_if x = cond (f x) 1 0

  pub count_by-cons : (x : X) (xs : List X) → count_by f (x ∷ xs) ≡ one_if x + count_by f xs
  count_by-cons x xs = sum_by-cons one_if x xs

  pub count_by-append : (xs ys : List X) → count_by f (xs ++ ys) ≡ count_by f xs + count_by f ys
  count_by-append xs ys = sum_by-append one_if xs ys

  pub count_by-remove : (b : X) (xs : List X) (i : ℕ) → slice_get xs i ≡ Some b → count_by f xs ≡ count_by f (remove xs i) + one_if b
  count_by-remove b [] i e = absurd (cc)
  count_by-remove b (x ∷ xs) zero e =
      let same : x ≡ b = cc in let c = count_by-cons x xs in
      let c' : one_if x ≡ one_if b = ap one_if same in omega (arith, c, c')
  count_by-remove b (x ∷ xs) (suc i) e =
      let ih = count_by-remove b xs i e in let c = count_by-cons x xs in let d = count_by-cons x (remove xs i) in omega (arith, ih, c, d)

  pub count_by-filter-le : (g : X → Bool) (xs : List X) → count_by f (filter g xs) ≤ count_by f xs
  count_by-filter-le g [] = omega arith
  count_by-filter-le g (x ∷ xs) =
      let ih = count_by-filter-le g xs in let c = count_by-cons x xs in let d = count_by-cons x (filter g xs) in by_test (g x)
      (λ k. let e : count_by f (filter g (x ∷ xs)) ≡ count_by f (x ∷ filter g xs) = ap (λ b. count_by f (cond b (x ∷ filter g xs) (filter g xs))) k in omega (arith, ih, c, d, e))
      (λ k. let e : count_by f (filter g (x ∷ xs)) ≡ count_by f (filter g xs) = ap (λ b. count_by f (cond b (x ∷ filter g xs) (filter g xs))) k in omega (arith, ih, c, e))

  pub count_by-filter : (g : X → Bool) → ((x : X) → f x ≡ true → g x ≡ true) → (xs : List X) → count_by f (filter g xs) ≡ count_by f xs
  count_by-filter g h [] = refl
  count_by-filter g h (x ∷ xs) =
      let ih = count_by-filter g h xs in let c = count_by-cons x xs in let d = count_by-cons x (filter g xs) in by_test (g x)
      (λ k. let e : count_by f (filter g (x ∷ xs)) ≡ count_by f (x ∷ filter g xs) = ap (λ b. count_by f (cond b (x ∷ filter g xs) (filter g xs))) k in omega (arith, ih, c, d, e))
      (λ k. let e : count_by f (filter g (x ∷ xs)) ≡ count_by f (filter g xs) = ap (λ b. count_by f (cond b (x ∷ filter g xs) (filter g xs))) k in
      let no : f x ≡ false = by_test (f x) (λ y. absurd (let bad : true ≡ false = sym (h x y) ∙ k in cc)) (λ n. n) in
      let zero' : one_if x ≡ 0 = ap (λ b. cond b 1 0) no in omega (arith, ih, c, e, zero'))

  pub some-counted : (xs : List X) → list_any f xs ≡ true → 0 < count_by f xs
  some-counted [] h = absurd (let bad : false ≡ true = h in cc)
  some-counted (x ∷ xs) h = let c = count_by-cons x xs in by_test (f x)
      (λ e. let one : one_if x ≡ 1 = ap (λ b. cond b 1 0) e in omega (arith, c, one))
      (λ e. let h' = rw e at h in let ih = some-counted xs h' in omega (arith, c, ih))

  -- none is counted where none passes
  pub count_by-none : (xs : List X) → list_any f xs ≡ false → count_by f xs ≡ 0
  count_by-none [] h = refl
  count_by-none (x ∷ xs) h =
      let k = or_parts (f x) (list_any f xs) h in let ih = count_by-none xs k.1 in let c = count_by-cons x xs in
      let none : one_if x ≡ 0 = ap (λ b. cond b 1 0) k.0 in omega (arith, c, none, ih)

  -- a test that holds of each element alike
  pub count_by-agree : (g : X → Bool) (xs : List X) → Each (λ x. f x ≡ g x) xs → count_by f xs ≡ count_by g xs
  count_by-agree g [] h = refl
  count_by-agree g (x ∷ xs) h =
      let ih = count_by-agree g xs h.1 in let c = count_by-cons x xs in let d = sum_by-cons (λ y. cond {A = ℕ} (g y) 1 0) x xs in
      let same : one_if x ≡ cond (g x) 1 0 = ap (λ b. cond b 1 0) h.0 in omega (arith, ih, c, d, same)

  -- two tests that exclude each other
  pub count_by-or : (g k : X → Bool) (xs : List X) → Each (λ x. (f x ≡ (g x || k x)) × ((g x && k x) ≡ false)) xs → count_by f xs ≡ count_by g xs + count_by k xs
  count_by-or g k [] h = refl
  count_by-or g k (x ∷ xs) h =
      let ih = count_by-or g k xs h.1 in let c = count_by-cons x xs in let d = sum_by-cons (λ y. cond {A = ℕ} (g y) 1 0) x xs in let e = sum_by-cons (λ y. cond {A = ℕ} (k y) 1 0) x xs in
      let split : one_if x ≡ cond {A = ℕ} (g x) 1 0 + cond {A = ℕ} (k x) 1 0 = ap (λ b. cond {A = ℕ} b 1 0) h.0.0 ∙ either (g x) (k x) h.0.1 in omega (arith, ih, c, d, e, split)
    where
      either : (a b : Bool) → (a && b) ≡ false → cond {A = ℕ} (a || b) 1 0 ≡ cond a 1 0 + cond b 1 0
      either true true n = absurd (let bad : true ≡ false = n in cc)
      either true false n = refl
      either false true n = refl
      either false false n = refl

module _ {X Y : Type 0} where
  -- a count of the images of some elements, as one of the whole list
  pub count_by-map-filter : (f : Y → Bool) (h : X → Y) (p g : X → Bool) (xs : List X) → Each (λ x. (p x ≡ true → f (h x) ≡ g x) × (p x ≡ false → g x ≡ false)) xs → count_by f (map h (filter p xs)) ≡ count_by g xs
  count_by-map-filter f h p g [] a = refl
  count_by-map-filter f h p g (x ∷ xs) a =
      let ih = count_by-map-filter f h p g xs a.1 in let d = count_by-cons g x xs in by_test (p x)
      (λ k. let e : count_by f (map h (filter p (x ∷ xs))) ≡ count_by f (h x ∷ map h (filter p xs)) = ap (λ b. count_by f (map h (cond b (x ∷ filter p xs) (filter p xs)))) k in
      let c = count_by-cons f (h x) (map h (filter p xs)) in let same : cond {A = ℕ} (f (h x)) 1 0 ≡ cond (g x) 1 0 = ap (λ b. cond b 1 0) (a.0.0 k) in omega (arith, ih, d, e, c, same))
      (λ k. let e : count_by f (map h (filter p (x ∷ xs))) ≡ count_by f (map h (filter p xs)) = ap (λ b. count_by f (map h (cond b (x ∷ filter p xs) (filter p xs)))) k in
      let none : cond {A = ℕ} (g x) 1 0 ≡ 0 = ap (λ b. cond b 1 0) (a.0.1 k) in omega (arith, ih, d, e, none))
