-- Items that are put into a rising list by their numbers, where no two have one number.
use Rattle.std.proofs.Common.{◌≡◌, ◌≤◌, ℕ, ◌+◌, List, [], ◌∷◌, Bool, true, false, cond, ◌==◌, filter, find, length, nat_lt, refl, sym, ap, ◌∙◌, arith, Option, Some, None, eq-eqb, eqb-true, ltb-true, ltb-false, if◌then◌else◌}
use Rattle.std.specs.Prelude.{is_none}
use Rattle.std.specs.List.{AllByRecursion as Each, fold, list_any}
use Rattle.std.proofs.lemmas.Bool.{both_ways, or_from, or_parts, true_from_ne_false}
use Rattle.gr_base.specs.Rising.{RisesBy, with_item}
use Rattle.gr_base.proofs.Rising.{rises-nil, rises-head, rises-tail, none-later, with-rises, filter-rises}
use Rattle.gr_lists.proofs.Tests.{by_test}
use Rattle.gr_lists.proofs.Choices.{or_else}
use Rattle.gr_lists.proofs.Items.{only, rises-same, find-filter, find-with_item, find-items, items-rise}
use Rattle.gr_lists.proofs.Chosen.{Each-find}
use Rattle.gr_lists.proofs.Any.{list_any-none}

module _ {X : Type 0} (key : X → ℕ) where
  -- the item of a number
  abbrev of : ℕ → List X → Option X
  of v xs = find (λ x. key x == v) xs

  -- further items put into a rising list, one after another
  abbrev put : List X → List X → List X
  put news old = fold (λ ys x. with_item key x ys) old news

  -- an item makes a rising list longer exactly where its number does not stand there
  pub length-with_item : (y : X) (xs : List X) → RisesBy key xs → length (with_item key y xs) ≡ length xs + cond (is_none (of (key y) xs)) 1 0
  length-with_item y [] r = refl
  length-with_item y (x ∷ xs) r = by_test (nat_lt (key x) (key y))
      (λ l. by_test (key x == key y)
      (λ e. let lt = ltb-true _ _ l in let same = eqb-true _ _ e in absurd (omega (arith, lt, same)))
      (λ e. let ih = length-with_item y xs (rises-tail key x xs r) in rw (l, e) (omega (arith, ih))))
      (λ l. by_test (key x == key y)
      (λ e. rw (l, e) (omega arith))
      (λ e. let ge = ltb-false _ _ l in let none = (none-later key (key y) x xs ge (rises-head key x xs r)).0 in rw (l, e, none) (omega arith)))

  -- no two items have one number
  abbrev pub Apart : List X → Type 0
  Apart [] = Unit {0}
  Apart (x ∷ xs) = (list_any (λ y. key y == key x) xs ≡ false) × Apart xs

  put-le : (news old : List X) → RisesBy key old → length (put news old) ≤ length old + length news
  put-le [] old r = omega arith
  put-le (x ∷ xs) old r =
      let ih = put-le xs (with_item key x old) (with-rises key x old r) in let one = length-with_item x old r in by_test (is_none (of (key x) old))
      (λ e. let one' = rw e at one in omega (arith, ih, one'))
      (λ e. let one' = rw e at one in omega (arith, ih, one'))

  abbrev IsFresh : List X → X → Type 0
  IsFresh old x = of (key x) old ≡ None

  not-some : (o : Option X) → is_none o ≡ true → o ≡ None
  not-some None e = refl
  not-some (Some x) e = absurd (let bad : false ≡ true = e in cc)

  or_else-none_left : (a b : Option X) → or_else a b ≡ None → (a ≡ None) × (b ≡ None)
  or_else-none_left None b e = (refl, e)
  or_else-none_left (Some x) b e = absurd (cc)

  -- items that make a list longer by their count are apart from each other and from it
  put-apart : (news old : List X) → RisesBy key old → length (put news old) ≡ length old + length news → Apart news × Each (IsFresh old) news
  put-apart [] old r e = (tt, tt)
  put-apart (x ∷ xs) old r e =
      let le = put-le xs (with_item key x old) (with-rises key x old r) in let one = length-with_item x old r in
      by_test (is_none (of (key x) old))
      (λ n. let one' = rw n at one in
      let ih = put-apart xs (with_item key x old) (with-rises key x old r) (omega (arith, e, one')) in
      let parts = (λ (y : X) (f : of (key y) (with_item key x old) ≡ None). or_else-none_left (of (key y) (x ∷ [])) (of (key y) old) (sym (find-with_item key x old (key y)) ∙ f)) in
      ((others xs (λ y f. (parts y f).0) ih.1, ih.0), (not-some (of (key x) old) n, fresh xs (λ y f. (parts y f).1) ih.1)))
      (λ n. let one' = rw n at one in absurd (omega (arith, e, one', le)))
    where
      others : (ys : List X) → ((y : X) → of (key y) (with_item key x old) ≡ None → of (key y) (x ∷ []) ≡ None) → Each (IsFresh (with_item key x old)) ys → list_any (λ y. key y == key x) ys ≡ false
      others [] f h = refl
      others (y ∷ ys) f h = or_from _ _
          (by_test (key y == key x)
          (λ k. absurd (let same = eqb-true _ _ k in let here : (key x == key y) ≡ true = eq-eqb _ _ (sym same) in let g = f y h.0 in let none = rw here at g in cc))
          (λ k. k))
          (others ys f h.1)

      fresh : (ys : List X) → ((y : X) → of (key y) (with_item key x old) ≡ None → of (key y) old ≡ None) → Each (IsFresh (with_item key x old)) ys → Each (IsFresh old) ys
      fresh [] f h = tt
      fresh (y ∷ ys) f h = (f y h.0, fresh ys f h.1)

  pub once-apart : (xs : List X) → length (put xs []) ≡ length xs → Apart xs
  once-apart xs e = (put-apart xs [] (rises-nil key) (omega (arith, e))).0

  or_else-none : (a : Option X) → or_else a None ≡ a
  or_else-none None = refl
  or_else-none (Some x) = refl

  -- what a search finds once they are put in
  none-put : (xs : List X) (v : ℕ) → list_any (λ y. key y == v) xs ≡ false → of v (put xs []) ≡ None
  none-put [] v a = refl
  none-put (x ∷ xs) v a = let k = or_parts (key x == v) _ a in
      find-items key xs (x ∷ []) v ∙ (ap (λ o. or_else o (of v (x ∷ []))) (none-put xs v k.1) ∙ rw k.0 refl)

  put-cons : (x : X) (xs : List X) (v : ℕ) → list_any (λ y. key y == key x) xs ≡ false → of v (put (x ∷ xs) []) ≡ (if key x == v then Some x else of v (put xs []))
  put-cons x xs v a = find-items key xs (x ∷ []) v ∙ by_test (key x == v)
      (λ e. let none : of v (put xs []) ≡ None = ap (λ n. of n (put xs [])) (sym (eqb-true _ _ e)) ∙ none-put xs (key x) a in rw (none, e) refl)
      (λ e. rw e (or_else-none (of v (put xs []))))

  -- a selection of them, put into the empty list
  put-filter-at : (g : X → Bool) (xs : List X) (v : ℕ) → Apart xs → of v (put (filter g xs) []) ≡ only g (of v (put xs []))
  put-filter-at g [] v a = refl
  put-filter-at g (x ∷ xs) v a = let ih = put-filter-at g xs v a.1 in by_test (g x)
      (λ k. rw k (put-cons x (filter g xs) v (filter-apart x xs a.0) ∙ (by_test (key x == v)
      (λ e. rw e (sym (ap (only g) (put-cons x xs v a.0) ∙ rw (e, k) refl)))
      (λ e. rw e (ih ∙ sym (ap (only g) (put-cons x xs v a.0) ∙ rw e refl))))))
      (λ k. rw k (by_test (key x == v)
      (λ e. let none : of v (put xs []) ≡ None = ap (λ n. of n (put xs [])) (sym (eqb-true _ _ e)) ∙ none-put xs (key x) a.0 in
      ih ∙ (ap (only g) none ∙ sym (ap (only g) (put-cons x xs v a.0) ∙ rw (e, k) refl)))
      (λ e. ih ∙ sym (ap (only g) (put-cons x xs v a.0) ∙ rw e refl))))
    where
      filter-apart : (x : X) (ys : List X) → list_any (λ y. key y == key x) ys ≡ false → list_any (λ y. key y == key x) (filter g ys) ≡ false
      filter-apart x [] n = refl
      filter-apart x (y ∷ ys) n = let k = or_parts (key y == key x) _ n in by_test (g y)
          (λ e. rw e (or_from _ _ k.0 (filter-apart x ys k.1)))
          (λ e. rw e (filter-apart x ys k.1))

  pub put-filter : (g : X → Bool) (xs : List X) → Apart xs → put (filter g xs) [] ≡ filter g (put xs [])
  put-filter g xs a = rises-same key (put (filter g xs) []) (filter g (put xs [])) (items-rise key (filter g xs) [] (rises-nil key)) (filter-rises key g (put xs []) (rises xs))
      (λ v. put-filter-at g xs v a ∙ sym (find-filter key g (put xs []) (rises xs) v))
    where
      rises : (xs : List X) → RisesBy key (put xs [])
      rises xs = items-rise key xs [] (rises-nil key)

  -- what each of the list meets, each of them meets
  pub put-each : (Q : X → Type 0) (xs : List X) → Apart xs → Each Q (put xs []) → Each Q xs
  put-each Q xs a h = each xs a (λ x v e. e)
    where
      found : (x : X) (v : ℕ) → of v (put xs []) ≡ Some x → Q x
      found x v e = let k = Each-find Q (λ y. key y == v) (put xs []) h in (rw e at k).1

      each : (ys : List X) → Apart ys → ((x : X) (v : ℕ) → of v (put ys []) ≡ Some x → of v (put xs []) ≡ Some x) → Each Q ys
      each [] b f = tt
      each (y ∷ ys) b f = (
        found y (key y) (f y (key y) (put-cons y ys (key y) b.0 ∙ rw (eq-eqb (key y) (key y) refl) refl)),
        each ys b.1 (λ x v e. f x v (put-cons y ys v b.0 ∙ by_test (key y == v)
            (λ k. absurd (let none : of v (put ys []) ≡ None = ap (λ n. of n (put ys [])) (sym (eqb-true _ _ k)) ∙ none-put ys (key y) b.0 in cc))
            (λ k. rw k e))),
      )

  item-all : (Q : X → Type 0) (x : X) (ys : List X) → Q x → Each Q ys → Each Q (with_item key x ys)
  item-all Q x [] e h = (e, tt)
  item-all Q x (y ∷ ys) e h = by_test (nat_lt (key y) (key x))
      (λ l. rw l (h.0, item-all Q x ys e h.1))
      (λ l. by_test (key y == key x)
      (λ s. rw (l, s) (e, h.1))
      (λ s. rw (l, s) (e, (h.0, h.1))))

  -- what each item and each of the list meets, each meets once they are put in
  pub put-all : (Q : X → Type 0) (news old : List X) → Each Q news → Each Q old → Each Q (put news old)
  put-all Q [] old h k = k
  put-all Q (x ∷ xs) old h k = put-all Q xs (with_item key x old) h.1 (item-all Q x old h.0 k)

  -- and a test that one of them passes, one of the list passes
  pub put-any : (f : X → Bool) (xs : List X) → Apart xs → list_any f (put xs []) ≡ list_any f xs
  put-any f xs a = by_test (list_any f xs)
      (λ e. true_from_ne_false _ (λ n. both_ways _ (list_any-none f xs (put-each (λ x. f x ≡ false) xs a (none-each f (put xs []) n))) e) ∙ sym e)
      (λ e. list_any-none f (put xs []) (put-all (λ x. f x ≡ false) xs [] (none-each f xs e) tt) ∙ sym e)
    where
      none-each : (f : X → Bool) (ys : List X) → list_any f ys ≡ false → Each (λ x. f x ≡ false) ys
      none-each f [] n = tt
      none-each f (y ∷ ys) n = let k = or_parts (f y) _ n in (k.0, none-each f ys k.1)
