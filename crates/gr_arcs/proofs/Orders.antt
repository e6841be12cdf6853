-- A list in order by two numbers has the elements of one first number in the order of the second.
use Rattle.std.proofs.Common.{◌≡◌, ◌∙◌, ◌<◌, ◌≤◌, ℕ, zero, suc, Bool, false, cond, eqb, List, [], ◌∷◌, length, get_or, Option, Some, refl, sym, ap, arith, inl, inr}
use Rattle.std.specs.List.{All, AllPairs, filter, find, sum_by}
use Rattle.std.specs.List.Sorted.{IsNonDecreasingBy, IsPermutation, IsSortedByKey}
use Rattle.std.specs.Ordering.{is_lt, nat_cmp, ordering_then}
use Rattle.std.proofs.lemmas.Bool.{cases_Bool, cases_eq, cases_order, cond-true, cond-false, eq-eqb, eqb-true, ne_eqb}
use Rattle.std.proofs.lemmas.Cmp.{nat_cmp_total, on_total, then_total}
use Rattle.std.proofs.lemmas.Grind.{common_steps}
use Rattle.std.proofs.lemmas.List.Elements.{All-filter, filter_passes}
use Rattle.std.proofs.lemmas.List.Kept.{AllPairs-filter}
use Rattle.std.proofs.lemmas.List.Sorted.{All-permutation, sum_by-IsPermutation, ranks_by, sorted_far}
use Rattle.std.proofs.lemmas.List.Sums.{sum_by-cons}
use Rattle.gr_base.specs.Rising.{RisesBy}
use Rattle.gr_base.proofs.Rising.{rises-tail, filter-rises, not-falling}

-- what a filter keeps, counted in the whole list
sum_by-filter : {X : Type 0} (f : X → ℕ) (p : X → Bool) (xs : List X) → sum_by f (filter p xs) ≡ sum_by (λ x. cond (p x) (f x) 0) xs
sum_by-filter f p [] = refl
sum_by-filter f p (x ∷ xs) =
    let rest = sum_by-filter f p xs in
    let whole = sum_by-cons (λ y. cond (p y) (f y) 0) x xs in
    elim (cases_Bool (p x)) [
      | inl on ↦ omega (arith, ap (sum_by f) (cond-true (p x) (x ∷ filter p xs) (filter p xs) on), sum_by-cons f x (filter p xs), cond-true (p x) (f x) 0 on)
      | inr off ↦ omega (arith, ap (sum_by f) (cond-false (p x) (x ∷ filter p xs) (filter p xs) off), cond-false (p x) (f x) 0 off)
    ]

module _ {X : Type 0} (key : X → ℕ) where
  abbrev one_at : ℕ → X → ℕ
  one_at v x = cond (eqb (key x) v) 1 0

  counted-first : (x : X) (xs : List X) → 0 < sum_by (one_at (key x)) (x ∷ xs)
  counted-first x xs = omega (arith, sum_by-cons (one_at (key x)) x xs, cond-true {A = ℕ} (eqb (key x) (key x)) 1 0 (eq-eqb (key x) (key x) refl))

  counted-none : (v : ℕ) (xs : List X) → All (λ x. v < key x) xs → sum_by (one_at v) xs ≡ 0
  counted-none v [] a = refl
  counted-none v (x ∷ xs) a =
      let lt : v < key x = a 0 x (omega arith) in
      let off = cond-false {A = ℕ} (eqb (key x) v) 1 0 (ne_eqb (key x) v (λ e. omega arith)) in
      let rest = counted-none v xs (λ k d l. a (suc k) d (omega arith)) in
      omega (arith, sum_by-cons (one_at v) x xs, off, rest)

  -- two lists that do not fall are the same where each number stands as often in both, and its element is told by it
  same-order : (of : ℕ → Option X) (xs ys : List X) → IsNonDecreasingBy key xs → IsNonDecreasingBy key ys → All (λ x. of (key x) ≡ Some x) xs → All (λ x. of (key x) ≡ Some x) ys
      → ((v : ℕ) → sum_by (one_at v) ys ≡ sum_by (one_at v) xs) → ys ≡ xs
  same-order of [] [] u w m n c = refl
  same-order of [] (y ∷ ys) u w m n c = absurd (omega (arith, c (key y), counted-first y ys))
  same-order of (x ∷ xs) [] u w m n c = absurd (omega (arith, c (key x), counted-first x xs))
  same-order of (x ∷ xs) (y ∷ ys) u w m n c = elim (cases_order (key x) (key y)) [
    | inl e ↦
        let told : of (key x) ≡ Some x = m 0 x (omega arith) in
        let told' : of (key y) ≡ Some y = n 0 y (omega arith) in
        let first : y ≡ x = cc in
        let rest = same-order of xs ys (λ i j d h l. u (suc i) (suc j) d (omega arith) (omega arith)) (λ i j d h l. w (suc i) (suc j) d (omega arith) (omega arith))
        (λ k d l. m (suc k) d (omega arith)) (λ k d l. n (suc k) d (omega arith))
        (λ v. omega (arith, c v, ap (one_at v) first, sum_by-cons (one_at v) x xs, sum_by-cons (one_at v) y ys)) in
        (λ i. first i ∷ rest i)
    | inr o ↦ elim o [
      | inl lt ↦ absurd (omega (arith, c (key x), counted-first x xs, counted-none (key x) (y ∷ ys) (λ k d l. let q = w 0 k d (omega arith) l in omega arith)))
      | inr gt ↦ absurd (omega (arith, c (key y), counted-first y ys, counted-none (key y) (x ∷ xs) (λ k d l. let q = u 0 k d (omega arith) l in omega arith)))
    ]
  ]

  -- in a rising list a number tells its element
  told-rising : (xs : List X) → RisesBy key xs → All (λ x. find (λ y. eqb (key y) (key x)) xs ≡ Some x) xs
  told-rising [] r k d l = absurd (omega arith)
  told-rising (x ∷ xs) r zero d l = cond-true (eqb (key x) (key x)) _ _ (eq-eqb (key x) (key x) refl)
  told-rising (x ∷ xs) r (suc k) d l =
      let lt : key x < key (get_or xs k d) = r 0 (suc k) d (omega arith) l in
      let off : eqb (key x) (key (get_or xs k d)) ≡ false = ne_eqb (key x) (key (get_or xs k d)) (λ e. omega arith) in
      cond-false (eqb (key x) (key (get_or xs k d))) _ _ off ∙ told-rising xs (rises-tail key x xs r) k d (omega arith)

-- a pair that is not before another
in_order : (a b c d : ℕ) → is_lt (ordering_then (nat_cmp b a) (nat_cmp d c)) ≡ false → (a ≤ b) × (a ≡ b → c ≤ d)
in_order a b c d h = (grind (arith, common_steps), λ e. grind (arith, common_steps))

module _ {X : Type 0} (major minor : X → ℕ) where
  -- of two with the same first number the earlier has the lower second
  abbrev pub InOrder : List X → Type 0
  InOrder xs = AllPairs (λ x y. major x ≡ major y → minor x ≤ minor y) xs

  abbrev here : ℕ → X → Bool
  here v x = eqb (major x) v

  filter-in_order : (v : ℕ) (xs : List X) → InOrder xs → IsNonDecreasingBy minor (filter (here v) xs)
  filter-in_order v xs up i j d le l =
      let ys = filter (here v) xs in
      elim (cases_eq i j) [
        | inl e ↦ omega (arith, ap (λ k. minor (get_or ys k d)) e)
        | inr ne ↦
            let a = eqb-true _ _ (filter_passes (here v) xs i d (omega arith)) in
            let b = eqb-true _ _ (filter_passes (here v) xs j d l) in
            AllPairs-filter (λ x y. major x ≡ major y → minor x ≤ minor y) (here v) xs up i j d (omega arith) l (a ∙ sym b)
      ]

  -- what a sort by both numbers gives
  pub order_from_sort : (xs : List X) → IsSortedByKey {K = ℕ × ℕ} (λ x. (major x, minor x)) (λ a b. ordering_then (nat_cmp a.0 b.0) (nat_cmp a.1 b.1)) xs → IsNonDecreasingBy major xs × InOrder xs
  order_from_sort xs up =
      let total = then_total (on_total (λ (p : ℕ × ℕ). p.0) nat_cmp_total) (on_total (λ (p : ℕ × ℕ). p.1) nat_cmp_total) in
      let far = λ (i j : ℕ) (d : X) (le : i ≤ j) (l : j < length xs).
      in_order (major (get_or xs i d)) (major (get_or xs j d)) (minor (get_or xs i d)) (minor (get_or xs j d)) (sorted_far _ (ranks_by total (λ x. (major x, minor x))) xs up i j d le l) in
      (λ i j d le l. (far i j d le l).0, λ i j d lt l. (far i j d (omega arith) l).1)

  -- the elements of one first number, in the order of the second
  pub filter-permutation : (v : ℕ) (xs ys : List X) → RisesBy minor xs → IsPermutation xs ys → InOrder ys → filter (here v) ys ≡ filter (here v) xs
  filter-permutation v xs ys r same up =
      let told = told-rising minor xs r in
      let Told = λ (x : X). find (λ y. eqb (minor y) (minor x)) xs ≡ Some x in
      same-order minor (λ n. find (λ y. eqb (minor y) n) xs) (filter (here v) xs) (filter (here v) ys)
      (not-falling minor (filter (here v) xs) (filter-rises minor (here v) xs r)) (filter-in_order v ys up)
      (All-filter (here v) Told xs told) (All-filter (here v) Told ys (All-permutation Told xs ys same told))
      (λ n. sum_by-filter (one_at minor n) (here v) ys ∙ sum_by-IsPermutation (λ x. cond (here v x) (one_at minor n x) 0) xs ys same ∙ sym (sum_by-filter (one_at minor n) (here v) xs))
