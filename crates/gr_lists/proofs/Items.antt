-- Rising lists by their numbers: what a search finds there, and lists that are put together of further items.
use Rattle.std.proofs.Common.{◌≡◌, ◌<◌, ℕ, List, [], ◌∷◌, Bool, true, false, ◌==◌, ◌||◌, filter, find, flat_map, nat_lt, refl, sym, ap, ◌∙◌, arith, inl, inr, Option, Some, None, if◌then◌else◌, eq-eqb, eqb-true, ne_eqb, ltb-true}
use Rattle.std.specs.List.{AllByRecursion as Each, fold, list_any}
use Rattle.std.proofs.lemmas.Bool.{cases_order}
use Rattle.std.proofs.lemmas.List.Sums.{fold-append}
use Rattle.gr_base.specs.Rising.{RisesBy, with_item}
use Rattle.gr_base.proofs.Rising.{rises-nil, rises-head, rises-tail, none-later, with-rises}
use Rattle.gr_lists.proofs.Tests.{by_test}
use Rattle.gr_lists.proofs.Choices.{or_else}

module _ {X : Type 0} where
  or_else-none : (a : Option X) → or_else a None ≡ a
  or_else-none None = refl
  or_else-none (Some x) = refl

  or_else-assoc : (a b c : Option X) → or_else (or_else a b) c ≡ or_else a (or_else b c)
  or_else-assoc None b c = refl
  or_else-assoc (Some x) b c = refl

  -- a value that passes a test
  abbrev pub only : (X → Bool) → Option X → Option X
  only f None = None
  only f (Some x) = if f x then Some x else None

  only-none : (o : Option X) → only (λ x. false) o ≡ None
  only-none None = refl
  only-none (Some x) = refl

  only-or : (f g : X → Bool) (o c : Option X) → or_else (only g o) (or_else (only f o) c) ≡ or_else (only (λ x. f x || g x) o) c
  only-or f g None c = refl
  only-or f g (Some x) c = either (f x) (g x)
    where
      either : (a b : Bool) → or_else (if b then Some x else None) (or_else (if a then Some x else None) c) ≡ or_else (if a || b then Some x else None) c
      either true true = refl
      either true false = refl
      either false true = refl
      either false false = refl

module _ {X : Type 0} (key : X → ℕ) where
  -- the element with a number
  abbrev of : ℕ → List X → Option X
  of v xs = find (λ x. key x == v) xs

  -- further items put into a rising list, one after another
  abbrev put : List X → List X → List X
  put news old = fold (λ ys x. with_item key x ys) old news

  pub find-none_later : (x : X) (xs : List X) → RisesBy key (x ∷ xs) → (v : ℕ) → (key x == v) ≡ true → of v xs ≡ None
  find-none_later x xs r v e = let same = eqb-true (key x) v e in (none-later key v x xs (omega (arith, same)) (rises-head key x xs r)).0

  pub find-tail : (x : X) (xs : List X) → RisesBy key (x ∷ xs) → (v : ℕ) → of v xs ≡ (if key x == v then None else of v (x ∷ xs))
  find-tail x xs r v = by_test (key x == v)
      (λ e. rw e (find-none_later x xs r v e))
      (λ e. rw e refl)

  -- a rising list has no element below its first
  find-below : (v : ℕ) (x : X) (xs : List X) → RisesBy key (x ∷ xs) → v < key x → of v (x ∷ xs) ≡ None
  find-below v x xs r lt =
      let ne : (key x == v) ≡ false = ne_eqb (key x) v (λ e. absurd (omega (arith, lt, e))) in
      rw ne (none-later key v x xs (omega (arith, lt)) (rises-head key x xs r)).0

  find-first : (x : X) (xs : List X) → of (key x) (x ∷ xs) ≡ Some x
  find-first x xs = rw (eq-eqb (key x) (key x) refl) refl

  -- two rising lists in which each search finds the same are the same
  pub rises-same : (xs ys : List X) → RisesBy key xs → RisesBy key ys → ((v : ℕ) → of v xs ≡ of v ys) → xs ≡ ys
  rises-same [] [] r s same = refl
  rises-same [] (y ∷ ys) r s same = absurd (let bad : None ≡ Some y = same (key y) ∙ find-first y ys in cc)
  rises-same (x ∷ xs) [] r s same = absurd (let bad : None ≡ Some x = sym (same (key x)) ∙ find-first x xs in cc)
  rises-same (x ∷ xs) (y ∷ ys) r s same = elim (cases_order (key x) (key y)) [
    | inl e ↦
        let e' : of (key x) (y ∷ ys) ≡ Some y = ap (λ v. of v (y ∷ ys)) e ∙ find-first y ys in
        let one : Some x ≡ Some y = sym (find-first x xs) ∙ (same (key x) ∙ e') in
        let heads : x ≡ y = cc in
        let tails : xs ≡ ys = rises-same xs ys (rises-tail key x xs r) (rises-tail key y ys s) (λ v.
        find-tail x xs r v ∙ ((λ i. if key (heads i) == v then None else same v i) ∙ sym (find-tail y ys s v))) in
        (λ i. heads i ∷ tails i)
    | inr o ↦ elim o [
      | inl lt ↦ absurd (let bad : Some x ≡ None = sym (find-first x xs) ∙ (same (key x) ∙ find-below (key x) y ys s lt) in cc)
      | inr gt ↦ absurd (let bad : None ≡ Some y = sym (find-below (key y) x xs r gt) ∙ (same (key y) ∙ find-first y ys) in cc)
    ]
  ]

  pub find-filter : (p : X → Bool) (xs : List X) → RisesBy key xs → (v : ℕ) → of v (filter p xs) ≡ only p (of v xs)
  find-filter p [] r v = refl
  find-filter p (x ∷ xs) r v =
      let ih = find-filter p xs (rises-tail key x xs r) v in by_test (p x)
      (λ k. by_test (key x == v)
      (λ e. rw (k, e, k) refl)
      (λ e. rw (k, e) ih))
      (λ k. by_test (key x == v)
      (λ e. rw (k, e, k) (ih ∙ ap (only p) (find-none_later x xs r v e)))
      (λ e. rw (k, e) ih))

  pub find-with_item : (y : X) (xs : List X) (v : ℕ) → of v (with_item key y xs) ≡ or_else (of v (y ∷ [])) (of v xs)
  find-with_item y [] v = sym (or_else-none (of v (y ∷ [])))
  find-with_item y (x ∷ xs) v = by_test (nat_lt (key x) (key y))
      (λ l. by_test (key x == v)
      (λ e.
      let lt = ltb-true _ _ l in let same = eqb-true _ _ e in
      let ne : (key y == v) ≡ false = ne_eqb (key y) v (λ k. absurd (omega (arith, lt, same, k))) in rw (l, e, ne) refl)
      (λ e. rw (l, e) (find-with_item y xs v)))
      (λ l. by_test (key x == key y)
      (λ s. by_test (key y == v)
      (λ e. rw (l, s, e) refl)
      (λ e. let ne : (key x == v) ≡ false = ap (λ n. n == v) (eqb-true _ _ s) ∙ e in rw (l, s, e, ne) refl))
      (λ s. by_test (key y == v)
      (λ e. rw (l, s, e) refl)
      (λ e. rw (l, s, e) refl)))

  pub items-rise : (news old : List X) → RisesBy key old → RisesBy key (put news old)
  items-rise [] old r = r
  items-rise (x ∷ xs) old r = items-rise xs (with_item key x old) (with-rises key x old r)

  -- of the further items, or else of the list into which they are put
  pub find-items : (news old : List X) (v : ℕ) → of v (put news old) ≡ or_else (of v (put news [])) (of v old)
  find-items [] old v = refl
  find-items (x ∷ xs) old v =
      find-items xs (with_item key x old) v
      ∙ (ap (or_else (of v (put xs []))) (find-with_item x old v)
      ∙ (sym (or_else-assoc (of v (put xs [])) (of v (x ∷ [])) (of v old))
      ∙ ap (λ o. or_else o (of v old)) (sym (find-items xs (x ∷ []) v))))

  find-rising : (xs : List X) → RisesBy key xs → (v : ℕ) → of v (put xs []) ≡ of v xs
  find-rising [] r v = refl
  find-rising (x ∷ xs) r v =
      find-items xs (x ∷ []) v ∙ (ap (λ o. or_else o (of v (x ∷ []))) (find-rising xs (rises-tail key x xs r) v)
      ∙ by_test (key x == v)
      (λ e. rw (e, find-none_later x xs r v e) refl)
      (λ e. rw e (or_else-none (of v xs))))

  -- the items of a rising list make that list
  pub items-rising : (xs : List X) → RisesBy key xs → put xs [] ≡ xs
  items-rising xs r = rises-same (put xs []) xs (items-rise xs [] (rises-nil key)) r (find-rising xs r)

  -- of several items of one number only the last counts
  pub items-last : (news old : List X) → RisesBy key old → put (put news []) old ≡ put news old
  items-last news old r =
      rises-same (put (put news []) old) (put news old) (items-rise (put news []) old r) (items-rise news old r)
      (λ v. find-items (put news []) old v
      ∙ (ap (λ o. or_else o (of v old)) (find-rising (put news []) (items-rise news [] (rises-nil key)) v) ∙ sym (find-items news old v)))

module _ {X Y : Type 0} (key : X → ℕ) (part : Y → List X) (test : Y → X → Bool) (whole : List X) (r : RisesBy key whole) where
  abbrev Parts : List Y → Type 0
  Parts ps = Each (λ p. fold (λ ys x. with_item key x ys) [] (part p) ≡ filter (test p) whole) ps

  find-parts : (ps : List Y) (old : List X) (v : ℕ) → Parts ps
      → of key v (put key (flat_map part ps) old) ≡ or_else (only (λ x. list_any (λ p. test p x) ps) (of key v whole)) (of key v old)
  find-parts [] old v h = ap (λ o. or_else o (of key v old)) (sym (only-none (of key v whole)))
  find-parts (p ∷ ps) old v h =
      ap (of key v) (fold-append (λ ys x. with_item key x ys) old (part p) (flat_map part ps))
      ∙ (find-parts ps (put key (part p) old) v h.1
      ∙ (ap (or_else (only (λ x. list_any (λ p. test p x) ps) (of key v whole)))
      (find-items key (part p) old v ∙ ap (λ o. or_else o (of key v old)) (ap (of key v) h.0 ∙ find-filter key (test p) whole r v))
      ∙ only-or (test p) (λ x. list_any (λ p. test p x) ps) (of key v whole) (of key v old)))

  only-all : (f : X → Bool) (xs : List X) → Each (λ x. f x ≡ true) xs → (v : ℕ) → only f (of key v xs) ≡ of key v xs
  only-all f [] h v = refl
  only-all f (x ∷ xs) h v = by_test (key x == v)
      (λ e. rw (e, h.0) refl)
      (λ e. rw e (only-all f xs h.1 v))

  -- parts of which each is a selection of a rising list, and which have all its elements, make that list
  pub parts-whole : (ps : List Y) → Parts ps → Each (λ x. list_any (λ p. test p x) ps ≡ true) whole → put key (flat_map part ps) [] ≡ whole
  parts-whole ps h all = rises-same key (put key (flat_map part ps) []) whole (items-rise key (flat_map part ps) [] (rises-nil key)) r (λ v.
      find-parts ps [] v h ∙ (or_else-none (only (λ x. list_any (λ p. test p x) ps) (of key v whole)) ∙ only-all (λ x. list_any (λ p. test p x) ps) whole all v))
