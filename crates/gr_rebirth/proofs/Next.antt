-- The next element of a rising list, put after those before it.
use Rattle.std.proofs.Common.{◌≡◌, ◌∙◌, ◌<◌, ◌+◌, ℕ, eqb, List, [], ◌∷◌, ◌++◌, None, length, take, get_or, refl, ap, sym, subst, arith}
use Rattle.std.specs.Prelude.{find}
use Rattle.std.specs.List.{All}
use Rattle.std.proofs.lemmas.Bool.{lt-ltb, ne_eqb}
use Rattle.std.proofs.lemmas.List.{take_more, length-take-le, get_or-take, get_or_default}
use Rattle.std.proofs.lemmas.List.Elements.{All-head, All-tail}
use Rattle.gr_base.specs.Rising.{RisesBy, with_item}

module _ {X : Type 0} (key : X → ℕ) where
  -- an element above all others
  with_item-end : (y : X) (xs : List X) → All (λ x. key x < key y) xs → with_item key y xs ≡ xs ++ y ∷ []
  with_item-end y [] above = refl
  with_item-end y (x ∷ xs) above =
      rw (lt-ltb (key x) (key y) (All-head (λ x. key x < key y) x xs above)) (ap (λ l. x ∷ l) (with_item-end y xs (All-tail (λ x. key x < key y) x xs above)))

  -- no element has the number of one above all
  find-above : (n : ℕ) (xs : List X) → All (λ x. key x < n) xs → find (λ x. eqb (key x) n) xs ≡ None
  find-above n [] above = refl
  find-above n (x ∷ xs) above =
      let lt = All-head (λ x. key x < n) x xs above in
      rw (ne_eqb (key x) n (λ e. absurd (omega (arith, e, lt)))) (find-above n xs (All-tail (λ x. key x < n) x xs above))

  module _ (xs : List X) (i : ℕ) (d : X) (rise : RisesBy key xs) (lt : i < length xs) where
    take-below : All (λ x. key x < key (get_or xs i d)) (take i xs)
    take-below k e l =
        let len : length (take i xs) ≡ i = length-take-le i xs (omega arith) in
        let low : k < i = omega (arith, len, l) in
        subst (λ x. key x < key (get_or xs i d)) (sym (get_or-take i xs k e low)) (let r = rise k i d low lt in subst (λ x. key x < key (get_or xs i d)) (get_or_default xs k d e (omega (arith, low, lt))) r)

    -- with the next element they are one more
    pub with_item-next : with_item key (get_or xs i d) (take i xs) ≡ take (i + 1) xs
    with_item-next = with_item-end (get_or xs i d) (take i xs) take-below ∙ sym (take_more xs i d lt)

    -- none of them has its number
    pub find-next : find (λ x. eqb (key x) (key (get_or xs i d))) (take i xs) ≡ None
    find-next = find-above (key (get_or xs i d)) (take i xs) take-below
