-- What holds of all that is selected from a list.
use Rattle.std.proofs.Common.{◌≡◌, ◌<◌, ◌≤◌, ◌∙◌, ℕ, zero, suc, Bool, true, false, cond, List, [], ◌∷◌, length, get_or, eqb, Option, Some, None, refl, sym, subst, ltb, arith}
use Rattle.std.specs.List.{All, find, filter_map, cons_option, prefix_len}
use Rattle.std.proofs.lemmas.Bool.{eq-eqb, ne_eqb, cond-true, cond-false}
use Rattle.std.proofs.lemmas.List.Elements.{All-cons}
use Rattle.gr_base.specs.Rising.{RisesBy}
use Rattle.gr_base.proofs.Rising.{rises-head, rises-tail, rises-cons, missing-at}

module _ {X Y : Type 0} (h : X → Option Y) where
  put-All : (Q : Y → Type 0) (o : Option Y) (ys : List Y) → ((y : Y) → o ≡ Some y → Q y) → All Q ys → All Q (cons_option o ys)
  put-All Q None ys first rest = rest
  put-All Q (Some y) ys first rest = All-cons Q y ys (first y refl) rest

  -- of all of a list
  pub All-filter_map : (P : X → Type 0) (Q : Y → Type 0) → ((x : X) (y : Y) → P x → h x ≡ Some y → Q y) → (xs : List X) → All P xs → All Q (filter_map h xs)
  All-filter_map P Q step [] a = λ k d l. absurd (omega arith)
  All-filter_map P Q step (x ∷ xs) a =
      put-All Q (h x) (filter_map h xs) (λ y e. step x y (a 0 x (omega arith)) e) (All-filter_map P Q step xs (λ k d l. a (suc k) d (omega arith)))

  put-rises : (number : Y → ℕ) (o : Option Y) (ys : List Y) → ((y : Y) → o ≡ Some y → All (λ z. number y < number z) ys) → RisesBy number ys → RisesBy number (cons_option o ys)
  put-rises number None ys later rest = rest
  put-rises number (Some y) ys later rest = rises-cons number y ys (later y refl) rest

  -- they rise, where each has the number of that from which it comes
  pub filter_map-rises : (key : X → ℕ) (number : Y → ℕ) → ((x : X) (y : Y) → h x ≡ Some y → number y ≡ key x) → (xs : List X) → RisesBy key xs → RisesBy number (filter_map h xs)
  filter_map-rises key number same [] r = λ i j d lt l. absurd (omega arith)
  filter_map-rises key number same (x ∷ xs) r =
      put-rises number (h x) (filter_map h xs)
      (λ y e. All-filter_map (λ z. key x < key z) (λ z. number y < number z) (λ z w lt q. omega (arith, lt, same x y e, same z w q)) xs (rises-head key x xs r))
      (filter_map-rises key number same xs (rises-tail key x xs r))

-- in a rising list each element is the one of its number
pub find-each : {X : Type 0} (key : X → ℕ) (xs : List X) → RisesBy key xs → (k : ℕ) (d : X) → k < length xs → find (λ y. eqb (key y) (key (get_or xs k d))) xs ≡ Some (get_or xs k d)
find-each key [] r k d l = absurd (omega arith)
find-each key (x ∷ xs) r zero d l = cond-true (eqb (key x) (key x)) _ _ (eq-eqb (key x) (key x) refl)
find-each key (x ∷ xs) r (suc k) d l =
    let lt : k < length xs = omega arith in
    let above = rises-head key x xs r k d lt in
    cond-false (eqb (key x) (key (get_or xs k d))) _ _ (ne_eqb (key x) (key (get_or xs k d)) (λ e. omega arith)) ∙ find-each key xs (rises-tail key x xs r) k d lt

-- what holds of all holds of the one that is found
pub found-All : {X : Type 0} (p : X → Bool) (P : X → Type 0) (xs : List X) (x : X) → All P xs → Some x ≡ find p xs → P x
found-All p P [] x a e = cc
found-All p P (y ∷ ys) x a e = by_test (p y) (a 0 y (omega arith)) (found-All p P ys x (λ k d l. a (suc k) d (omega arith))) e
  where
    by_test : (b : Bool) → P y → (Some x ≡ find p ys → P x) → Some x ≡ cond b (Some y) (find p ys) → P x
    by_test true first rest e = let same : x ≡ y = cc in subst P (sym same) first
    by_test false first rest e = rest e

-- a number past all is not found
pub missing-past : {X : Type 0} (key : X → ℕ) (v : ℕ) (xs : List X) (i : ℕ) → RisesBy key xs → prefix_len (λ x. ltb (key x) v) xs ≡ i → length xs ≤ i → find (λ x. eqb (key x) v) xs ≡ None
missing-past key v [] i r e le = refl
missing-past key v (x ∷ xs) i r e le = (missing-at key v (x ∷ xs) i x r e (λ l q. absurd (omega arith))).0
