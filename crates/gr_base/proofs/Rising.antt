-- Where a number stands in a rising list.
use Rattle.std.proofs.Common.{◌≡◌, ◌≢◌, ◌∙◌, ◌<◌, ◌≤◌, ℕ, zero, suc, Bool, true, false, cond, List, [], ◌∷◌, length, get_or, set, map, eqb, ltb, Some, None, refl, ap, sym, arith, inl, inr}
use Rattle.std.specs.List.{All, filter, list_any, find, insert, prefix_len}
use Rattle.std.proofs.lemmas.Bool.{cases_Bool, cases_order, cases_eq, cases_lt, cond-true, cond-false, eq-eqb, ne_eqb, ltb-true, ltb-false}
use Rattle.std.proofs.lemmas.List.Elements.{All-cons, All-filter}
use Rattle.std.specs.List.Sorted.{IsNonDecreasingBy, IsPartitionPoint, IsStrictlyIncreasing}
use Rattle.std.proofs.lemmas.List.Kept.{AllPairs-from_increasing}
use Rattle.std.proofs.lemmas.List.{length-map, get_or-map}
use Rattle.std.proofs.lemmas.List.Sums.{prefix_len_is}
use Rattle.gr_base.specs.Rising.{RisesBy, with_item}

module _ {X : Type 0} (key : X → ℕ) where
  abbrev below : ℕ → X → Bool
  below v x = ltb (key x) v

  abbrev here : ℕ → X → Bool
  here v x = eqb (key x) v

  pub rises-tail : (x : X) (xs : List X) → RisesBy key (x ∷ xs) → RisesBy key xs
  rises-tail x xs r = λ i j d h l. r (suc i) (suc j) d (omega arith) (omega arith)

  pub rises-head : (x : X) (xs : List X) → RisesBy key (x ∷ xs) → All (λ y. key x < key y) xs
  rises-head x xs r = λ k d l. r 0 (suc k) d (omega arith) (omega arith)

  pub rises-cons : (x : X) (xs : List X) → All (λ y. key x < key y) xs → RisesBy key xs → RisesBy key (x ∷ xs)
  rises-cons x xs a r zero zero d h l = absurd (omega arith)
  rises-cons x xs a r zero (suc j) d h l = a j d (omega arith)
  rises-cons x xs a r (suc i) zero d h l = absurd (omega arith)
  rises-cons x xs a r (suc i) (suc j) d h l = r i j d (omega arith) (omega arith)

  pub rises-nil : RisesBy key []
  rises-nil = λ i j d h l. absurd (omega arith)

  -- none of the later elements has a number that is not above
  pub none-later : (v : ℕ) (x : X) (xs : List X) → v ≤ key x → All (λ y. key x < key y) xs → (find (here v) xs ≡ None) × (list_any (here v) xs ≡ false)
  none-later v x [] le a = (refl, refl)
  none-later v x (y ∷ ys) le a =
      let above : key x < key y = a 0 y (omega arith) in
      let off : eqb (key y) v ≡ false = ne_eqb (key y) v (λ e. omega arith) in
      let rest = none-later v x ys le (λ k d l. a (suc k) d (omega arith)) in
      rw off (rest.0, rest.1)

  -- what a search for v ends with
  pub found-at : (v : ℕ) (xs : List X) (i : ℕ) (d : X) → RisesBy key xs → prefix_len (below v) xs ≡ i → i < length xs → key (get_or xs i d) ≡ v → (find (here v) xs ≡ Some (get_or xs i d)) × (list_any (here v) xs ≡ true)
  found-at v [] i d r e l k = absurd (omega arith)
  found-at v (x ∷ xs) i d r e l k = elim (cases_Bool (ltb (key x) v)) [
    | inl on ↦
        let lt = ltb-true (key x) v on in
        let off : eqb (key x) v ≡ false = ne_eqb (key x) v (λ q. omega arith) in
        let step : i ≡ suc (prefix_len (below v) xs) = sym e ∙ cond-true (ltb (key x) v) _ _ on ∙ omega arith in
        let at : get_or (x ∷ xs) i d ≡ get_or xs (prefix_len (below v) xs) d = ap (λ n. get_or (x ∷ xs) n d) step in
        let rest = found-at v xs (prefix_len (below v) xs) d (rises-tail x xs r) refl (omega arith) (sym (ap key at) ∙ k) in
        rw (at, off) (rest.0, rest.1)
    | inr off ↦
        let step : i ≡ 0 = sym e ∙ cond-false (ltb (key x) v) _ _ off in
        let at : get_or (x ∷ xs) i d ≡ x = ap (λ n. get_or (x ∷ xs) n d) step in
        let on : eqb (key x) v ≡ true = eq-eqb (key x) v (sym (ap key at) ∙ k) in
        rw (at, on) (refl, refl)
  ]

  pub missing-at : (v : ℕ) (xs : List X) (i : ℕ) (d : X) → RisesBy key xs → prefix_len (below v) xs ≡ i → (i < length xs → key (get_or xs i d) ≢ v) → (find (here v) xs ≡ None) × (list_any (here v) xs ≡ false)
  missing-at v [] i d r e k = (refl, refl)
  missing-at v (x ∷ xs) i d r e k = elim (cases_Bool (ltb (key x) v)) [
    | inl on ↦
        let lt = ltb-true (key x) v on in
        let off : eqb (key x) v ≡ false = ne_eqb (key x) v (λ q. omega arith) in
        let step : i ≡ suc (prefix_len (below v) xs) = sym e ∙ cond-true (ltb (key x) v) _ _ on ∙ omega arith in
        let at : get_or (x ∷ xs) i d ≡ get_or xs (prefix_len (below v) xs) d = ap (λ n. get_or (x ∷ xs) n d) step in
        let rest = missing-at v xs (prefix_len (below v) xs) d (rises-tail x xs r) refl (λ l q. k (omega arith) (ap key at ∙ q)) in
        rw off (rest.0, rest.1)
    | inr un ↦
        let ge = ltb-false (key x) v un in
        let step : i ≡ 0 = sym e ∙ cond-false (ltb (key x) v) _ _ un in
        let at : get_or (x ∷ xs) i d ≡ x = ap (λ n. get_or (x ∷ xs) n d) step in
        let off : eqb (key x) v ≡ false = ne_eqb (key x) v (λ q. k (omega arith) (ap key at ∙ q)) in
        let rest = none-later v x xs ge (rises-head x xs r) in
        rw off (rest.0, rest.1)
  ]

  -- an element takes the place of that of its number, or goes between
  pub with-found : (y : X) (xs : List X) (i : ℕ) (d : X) → prefix_len (below (key y)) xs ≡ i → i < length xs → key (get_or xs i d) ≡ key y → set xs i y ≡ with_item key y xs
  with-found y [] i d e l k = absurd (omega arith)
  with-found y (x ∷ xs) i d e l k = elim (cases_Bool (ltb (key x) (key y))) [
    | inl on ↦
        let step : i ≡ suc (prefix_len (below (key y)) xs) = sym e ∙ cond-true (ltb (key x) (key y)) _ _ on ∙ omega arith in
        let at : get_or (x ∷ xs) i d ≡ get_or xs (prefix_len (below (key y)) xs) d = ap (λ n. get_or (x ∷ xs) n d) step in
        let rest = with-found y xs (prefix_len (below (key y)) xs) d refl (omega arith) (sym (ap key at) ∙ k) in
        ap (λ n. set (x ∷ xs) n y) step ∙ ap (λ l. x ∷ l) rest ∙ sym (cond-true (ltb (key x) (key y)) _ _ on)
    | inr off ↦
        let step : i ≡ 0 = sym e ∙ cond-false (ltb (key x) (key y)) _ _ off in
        let at : get_or (x ∷ xs) i d ≡ x = ap (λ n. get_or (x ∷ xs) n d) step in
        ap (λ n. set (x ∷ xs) n y) step ∙ sym (cond-false (ltb (key x) (key y)) _ _ off ∙ cond-true (eqb (key x) (key y)) _ _ (eq-eqb (key x) (key y) (sym (ap key at) ∙ k)))
  ]

  pub with-missing : (y : X) (xs : List X) (i : ℕ) (d : X) → prefix_len (below (key y)) xs ≡ i → (i < length xs → key (get_or xs i d) ≢ key y) → insert xs i y ≡ with_item key y xs
  with-missing y [] i d e k = ap (λ n. insert [] n y) (sym e)
  with-missing y (x ∷ xs) i d e k = elim (cases_Bool (ltb (key x) (key y))) [
    | inl on ↦
        let step : i ≡ suc (prefix_len (below (key y)) xs) = sym e ∙ cond-true (ltb (key x) (key y)) _ _ on ∙ omega arith in
        let at : get_or (x ∷ xs) i d ≡ get_or xs (prefix_len (below (key y)) xs) d = ap (λ n. get_or (x ∷ xs) n d) step in
        let rest = with-missing y xs (prefix_len (below (key y)) xs) d refl (λ l q. k (omega arith) (ap key at ∙ q)) in
        ap (λ n. insert (x ∷ xs) n y) step ∙ ap (λ l. x ∷ l) rest ∙ sym (cond-true (ltb (key x) (key y)) _ _ on)
    | inr off ↦
        let step : i ≡ 0 = sym e ∙ cond-false (ltb (key x) (key y)) _ _ off in
        let at : get_or (x ∷ xs) i d ≡ x = ap (λ n. get_or (x ∷ xs) n d) step in
        ap (λ n. insert (x ∷ xs) n y) step ∙ sym (cond-false (ltb (key x) (key y)) _ _ off ∙ cond-false (eqb (key x) (key y)) _ _ (ne_eqb (key x) (key y) (λ q. k (omega arith) (ap key at ∙ q))))
  ]

  -- a number that stands in the list is found
  pub stands-at : (v : ℕ) (xs : List X) (i : ℕ) (d : X) → RisesBy key xs → prefix_len (below v) xs ≡ i → (find (here v) xs ≡ None → ⊥) → (i < length xs) × (key (get_or xs i d) ≡ v)
  stands-at v xs i d r e some = elim (cases_lt i (length xs)) [
    | inl lt ↦ elim (cases_eq (key (get_or xs i d)) v) [
      | inl at ↦ (lt, at)
      | inr apart ↦ absurd (some (missing-at v xs i d r e (λ l q. apart q)).0)
    ]
    | inr ge ↦ absurd (some (missing-at v xs i d r e (λ l q. omega arith)).0)
  ]

  -- a change of the element with a number
  pub mapped-at : (f : X → X) (v : ℕ) (xs : List X) (i : ℕ) (d : X) → RisesBy key xs → prefix_len (below v) xs ≡ i → i < length xs → key (get_or xs i d) ≡ v → set xs i (f (get_or xs i d)) ≡ map (λ x. cond (eqb (key x) v) (f x) x) xs
  mapped-at f v [] i d r e l k = absurd (omega arith)
  mapped-at f v (x ∷ xs) i d r e l k = elim (cases_Bool (ltb (key x) v)) [
    | inl on ↦
        let lt = ltb-true (key x) v on in
        let off : eqb (key x) v ≡ false = ne_eqb (key x) v (λ q. omega arith) in
        let step : i ≡ suc (prefix_len (below v) xs) = sym e ∙ cond-true (ltb (key x) v) _ _ on ∙ omega arith in
        let at : get_or (x ∷ xs) i d ≡ get_or xs (prefix_len (below v) xs) d = ap (λ n. get_or (x ∷ xs) n d) step in
        let rest = mapped-at f v xs (prefix_len (below v) xs) d (rises-tail x xs r) refl (omega arith) (sym (ap key at) ∙ k) in
        rw (at, off) (ap (λ n. set (x ∷ xs) n (f (get_or xs (prefix_len (below v) xs) d))) step ∙ ap (λ l. x ∷ l) rest)
    | inr off ↦
        let step : i ≡ 0 = sym e ∙ cond-false (ltb (key x) v) _ _ off in
        let at : get_or (x ∷ xs) i d ≡ x = ap (λ n. get_or (x ∷ xs) n d) step in
        let on : eqb (key x) v ≡ true = eq-eqb (key x) v (sym (ap key at) ∙ k) in
        rw (at, on) (ap (λ n. set (x ∷ xs) n (f x)) step ∙ ap (λ l. f x ∷ l) (sym (unchanged f v xs (sym (ap key at) ∙ k) (rises-head x xs r))))
  ]
    where
      unchanged : (f : X → X) (v : ℕ) (ys : List X) → {x : X} → key x ≡ v → All (λ y. key x < key y) ys → map (λ x. cond (eqb (key x) v) (f x) x) ys ≡ ys
      unchanged f v [] same a = refl
      unchanged f v (y ∷ ys) {x} same a =
          let above : key x < key y = a 0 y (omega arith) in
          let off : eqb (key y) v ≡ false = ne_eqb (key y) v (λ q. omega arith) in
          rw off (ap (λ l. y ∷ l) (unchanged f v ys {x = x} same (λ k d l. a (suc k) d (omega arith))))

  -- a change that keeps each number
  pub mapped-rises : (f : X → X) → ((x : X) → key (f x) ≡ key x) → (xs : List X) → RisesBy key xs → RisesBy key (map f xs)
  mapped-rises f same xs r = λ i j d h l.
      let lj : j < length xs = rw length-map at l in
      let li : i < length xs = omega arith in
      let q = r i j d h lj in
      omega (arith, ap key (get_or-map f xs i d d li), ap key (get_or-map f xs j d d lj), same (get_or xs i d), same (get_or xs j d))

  pub filter-rises : (p : X → Bool) (xs : List X) → RisesBy key xs → RisesBy key (filter p xs)
  filter-rises p [] r = r
  filter-rises p (x ∷ xs) r = kept (p x) x (filter p xs) (All-filter p (λ y. key x < key y) xs (rises-head x xs r)) (filter-rises p xs (rises-tail x xs r))
    where
      kept : (b : Bool) (y : X) (ys : List X) → All (λ z. key y < key z) ys → RisesBy key ys → RisesBy key (cond b (y ∷ ys) ys)
      kept true y ys a r = rises-cons y ys a r
      kept false y ys a r = r

  pub keys-rise : (xs : List X) → RisesBy key xs → RisesBy (λ (n : ℕ). n) (map key xs)
  keys-rise [] r = λ i j d h l. absurd (omega arith)
  keys-rise (x ∷ xs) r = λ i j d h l.
      let lj : j < length (x ∷ xs) = rw length-map at l in
      let li : i < length (x ∷ xs) = omega arith in
      let q = r i j x h lj in
      omega (arith, get_or-map key (x ∷ xs) i x d li, get_or-map key (x ∷ xs) j x d lj)

  pub not-falling : (xs : List X) → RisesBy key xs → IsNonDecreasingBy key xs
  not-falling xs r = λ i j d le l. elim (cases_eq i j) [
    | inl same ↦ omega (arith, ap (λ n. key (get_or xs n d)) same)
    | inr apart ↦ let q = r i j d (omega arith) l in omega arith
  ]

  pub prefix-at_point : (v : ℕ) (xs : List X) (i : ℕ) → i ≤ length xs → IsPartitionPoint (λ x. below v x ≡ true) (λ x. below v x ≡ false) xs i → prefix_len (below v) xs ≡ i
  prefix-at_point v [] i le p = omega arith
  prefix-at_point v (x ∷ xs) i le p = prefix_len_is (below v) (x ∷ xs) i x le (λ k l. p.0 k x (omega arith) l) (λ l. p.1 i x (omega arith) l)

  -- it still rises
  with-above : (n : ℕ) (y : X) (xs : List X) → n < key y → All (λ x. n < key x) xs → All (λ x. n < key x) (with_item key y xs)
  with-above n y [] h a = All-cons (λ x. n < key x) y [] h a
  with-above n y (x ∷ xs) h a =
      let hx : n < key x = a 0 x (omega arith) in
      let rest : All (λ z. n < key z) xs = λ k d l. a (suc k) d (omega arith) in
      elim (cases_Bool (ltb (key x) (key y))) [
        | inl on ↦ rw on (All-cons (λ z. n < key z) x (with_item key y xs) hx (with-above n y xs h rest))
        | inr off ↦ elim (cases_Bool (eqb (key x) (key y))) [
          | inl same ↦ rw (off, same) (All-cons (λ z. n < key z) y xs h rest)
          | inr apart ↦ rw (off, apart) (All-cons (λ z. n < key z) y (x ∷ xs) h a)
        ]
      ]

  pub with-rises : (y : X) (xs : List X) → RisesBy key xs → RisesBy key (with_item key y xs)
  with-rises y [] r = rises-cons y [] (λ k d l. absurd (omega arith)) r
  with-rises y (x ∷ xs) r =
      let later = rises-head x xs r in
      elim (cases_Bool (ltb (key x) (key y))) [
        | inl on ↦ rw on (rises-cons x (with_item key y xs) (with-above (key x) y xs (ltb-true (key x) (key y) on) later) (with-rises y xs (rises-tail x xs r)))
        | inr off ↦
            let ge = ltb-false (key x) (key y) off in
            elim (cases_Bool (eqb (key x) (key y))) [
              | inl same ↦ rw (off, same) (rises-cons y xs (λ k d l. let q = later k d l in omega arith) (rises-tail x xs r))
              | inr apart ↦ rw (off, apart) (rises-cons y (x ∷ xs) (rises-from-cons y x xs ge apart later) r)
            ]
      ]
    where
      rises-from-cons : (y x : X) (xs : List X) → key y ≤ key x → eqb (key x) (key y) ≡ false → All (λ z. key x < key z) xs → All (λ z. key y < key z) (x ∷ xs)
      rises-from-cons y x xs le apart later = let lt : key y < key x = lt-of le apart in All-cons (λ z. key y < key z) x xs lt (λ k d l. let q = later k d l in omega arith)
        where
          lt-of : key y ≤ key x → eqb (key x) (key y) ≡ false → key y < key x
          lt-of le apart = elim (cases_order (key y) (key x)) [
            | inl e ↦ let t = eq-eqb (key x) (key y) (sym e) in cc
            | inr o ↦ elim o [ inl lt ↦ lt | inr gt ↦ absurd (omega arith) ]
          ]

-- numbers each below the next rise
pub rises-from_increasing : (xs : List ℕ) → IsStrictlyIncreasing xs → RisesBy (λ (n : ℕ). n) xs
rises-from_increasing xs r = λ i j d h l. AllPairs-from_increasing xs r i j d h l
