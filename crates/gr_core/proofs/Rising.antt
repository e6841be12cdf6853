-- What is put at the end of a rising list.
use Rattle.std.proofs.Common.{◌≡◌, ◌∙◌, ◌<◌, ◌≤◌, ◌+◌, ℕ, zero, suc, Bool, true, false, eqb, cond, List, [], ◌∷◌, ◌++◌, None, map, length, take, get_or, refl, ap, sym, subst, arith, inl, inr}
use Rattle.std.specs.Prelude.{find}
use Rattle.std.specs.List.{All, filter, range_with_len}
use Rattle.std.proofs.lemmas.Bool.{cases_Bool, cond-true, cond-false, lt-ltb, le-ltb, ne_eqb}
use Rattle.std.proofs.lemmas.List.{append-nil, take_more, map-append, length-take-le, get_or-take, get_or_default}
use Rattle.std.proofs.lemmas.List.Elements.{All-head, All-tail, filter-append}
use Rattle.gr_base.specs.Rising.{RisesBy, with_item}
use Rattle.gr_base.specs.Places.{with_place}
use Rattle.gr_copies.proofs.Selecting.{filter-on, filter-off, filter-range_more}

-- the place after those of a range that pass a test
pub with_place-range : (f : ℕ → Bool) (a n p : ℕ) → a + n ≤ p → with_place (filter f (range_with_len a n)) p ≡ filter f (range_with_len a n) ++ p ∷ []
with_place-range f a zero p le = refl
with_place-range f a (suc n) p le =
    let rest = with_place-range f (a + 1) n p (omega arith) in
    elim (cases_Bool (f a)) [
      | inl on ↦ rw (filter-on f a (range_with_len (a + 1) n) on, le-ltb p a (omega arith), lt-ltb a p (omega arith)) (ap (λ l. a ∷ l) rest)
      | inr off ↦ rw (filter-off f a (range_with_len (a + 1) n) off) rest
    ]

-- a range with one more number that passes the test, or does not
pub filter-range_on : (f : ℕ → Bool) (p : ℕ) → f p ≡ true → filter f (range_with_len 0 (p + 1)) ≡ with_place (filter f (range_with_len 0 p)) p
filter-range_on f p on =
    let more : p + 1 ≡ suc p = omega arith in
    let start : 0 + p ≡ p = omega arith in
    ap (λ n. filter f (range_with_len 0 n)) more ∙ filter-range_more f 0 p ∙ ap (λ m. filter f (range_with_len 0 p) ++ cond (f m) (m ∷ []) []) start
    ∙ ap (λ l. filter f (range_with_len 0 p) ++ l) (cond-true (f p) (p ∷ []) [] on)
    ∙ sym (with_place-range f 0 p p (omega arith))

pub filter-range_off : (f : ℕ → Bool) (p : ℕ) → f p ≡ false → filter f (range_with_len 0 (p + 1)) ≡ filter f (range_with_len 0 p)
filter-range_off f p off =
    let more : p + 1 ≡ suc p = omega arith in
    let start : 0 + p ≡ p = omega arith in
    ap (λ n. filter f (range_with_len 0 n)) more ∙ filter-range_more f 0 p ∙ ap (λ m. filter f (range_with_len 0 p) ++ cond (f m) (m ∷ []) []) start
    ∙ ap (λ l. filter f (range_with_len 0 p) ++ l) (cond-false (f p) (p ∷ []) [] off) ∙ append-nil (filter f (range_with_len 0 p))

-- an element above all others
pub with_item-end : {X : Type 0} (key : X → ℕ) (y : X) (xs : List X) → All (λ x. key x < key y) xs → with_item key y xs ≡ xs ++ y ∷ []
with_item-end key y [] above = refl
with_item-end key y (x ∷ xs) above =
    rw (lt-ltb (key x) (key y) (All-head (λ x. key x < key y) x xs above)) (ap (λ l. x ∷ l) (with_item-end key y xs (All-tail (λ x. key x < key y) x xs above)))

-- no element has the number of one above all
pub find-above : {X : Type 0} (key : X → ℕ) (n : ℕ) (xs : List X) → All (λ x. key x < n) xs → find (λ x. eqb (key x) n) xs ≡ None
find-above key n [] above = refl
find-above key n (x ∷ xs) above =
    let lt = All-head (λ x. key x < n) x xs above in
    rw (ne_eqb (key x) n (λ e. absurd (omega (arith, e, lt)))) (find-above key n xs (All-tail (λ x. key x < n) x xs above))

module _ {X : Type 0} (key : X → ℕ) (xs : List X) (i : ℕ) (d : X) (rise : RisesBy key xs) (lt : i < length xs) where
  -- the elements before one of a rising list are below it
  pub take-below : All (λ x. key x < key (get_or xs i d)) (take i xs)
  take-below k e l =
      let len : length (take i xs) ≡ i = length-take-le i xs (omega arith) in
      let low : k < i = omega (arith, len, l) in
      subst (λ x. key x < key (get_or xs i d)) (sym (get_or-take i xs k e low)) (let r = rise k i d low lt in subst (λ x. key x < key (get_or xs i d)) (get_or_default xs k d e (omega (arith, low, lt))) r)

  -- with the next element put among them they are one more
  pub with_item-next : with_item key (get_or xs i d) (take i xs) ≡ take (i + 1) xs
  with_item-next = with_item-end key (get_or xs i d) (take i xs) take-below ∙ sym (take_more xs i d lt)

  -- none of them has its number
  pub find-next : find (λ x. eqb (key x) (key (get_or xs i d))) (take i xs) ≡ None
  find-next = find-above key (key (get_or xs i d)) (take i xs) take-below

-- what f makes of the numbers that pass, each by its own number
module _ {X : Type 0} (key : X → ℕ) (f : ℕ → X) (same : (v : ℕ) → key (f v) ≡ v) (t : ℕ → Bool) where
  with_item-chosen : (v : ℕ) (ws : List ℕ) → All (λ w. w < v) ws → with_item key (f v) (map f (filter t ws)) ≡ map f (filter t ws) ++ f v ∷ []
  with_item-chosen v [] low = refl
  with_item-chosen v (w ∷ ws) low =
      let lt = All-head (λ w. w < v) w ws low in
      let rest = with_item-chosen v ws (All-tail (λ w. w < v) w ws low) in
      elim (cases_Bool (t w)) [
        | inl on ↦ rw (filter-on t w ws on, lt-ltb (key (f w)) (key (f v)) (omega (arith, lt, same v, same w))) (ap (λ l. f w ∷ l) rest)
        | inr off ↦ rw (filter-off t w ws off) rest
      ]

  module _ (vs : List ℕ) (k : ℕ) (rise : RisesBy (λ v. v) vs) (lt : k < length vs) where
    -- the next number, that passes or does not
    pub chosen-on : t (get_or vs k 0) ≡ true → with_item key (f (get_or vs k 0)) (map f (filter t (take k vs))) ≡ map f (filter t (take (k + 1) vs))
    chosen-on on =
        with_item-chosen (get_or vs k 0) (take k vs) (take-below (λ v. v) vs k 0 rise lt)
        ∙ sym (ap (λ l. map f (filter t l)) (take_more vs k 0 lt)
        ∙ ap (map f) (filter-append t (take k vs) (get_or vs k 0 ∷ []) ∙ ap (λ l. filter t (take k vs) ++ l) (filter-on t (get_or vs k 0) [] on))
        ∙ map-append f (filter t (take k vs)) (get_or vs k 0 ∷ []))

    pub chosen-off : t (get_or vs k 0) ≡ false → map f (filter t (take (k + 1) vs)) ≡ map f (filter t (take k vs))
    chosen-off off =
        ap (λ l. map f (filter t l)) (take_more vs k 0 lt)
        ∙ ap (map f) (filter-append t (take k vs) (get_or vs k 0 ∷ []) ∙ ap (λ l. filter t (take k vs) ++ l) (filter-off t (get_or vs k 0) [] off) ∙ append-nil (filter t (take k vs)))
