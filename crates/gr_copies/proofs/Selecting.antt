-- Members of rising lists.
use Rattle.std.proofs.Common.{◌≡◌, ◌∙◌, ◌<◌, ◌≤◌, ◌+◌, ◌-◌, ℕ, zero, suc, Bool, true, false, not, ltb, cond, List, [], ◌∷◌, ◌++◌, length, take, get_or, refl, ap, sym, arith, inl, inr}
use Rattle.std.specs.Prelude.{◌&&◌, ◌||◌}
use Rattle.std.specs.List.{All, filter, range_with_len}
use Rattle.std.proofs.lemmas.Bool.{cases_Bool, cases_order, cases_lt, cond-true, cond-false, eq-eqb, ne_eqb, lt-ltb, le-ltb, and_left, and_right, and_from}
use Rattle.std.proofs.lemmas.List.Elements.{All-cons, All-head, All-tail}
use Rattle.gr_base.specs.Rising.{RisesBy, has}
use Rattle.gr_base.specs.Places.{ring}
use Rattle.gr_base.proofs.Rising.{rises-tail, rises-head, none-later}

-- tests that agree on the elements
pub filter-same : {X : Type 0} (f g : X → Bool) (xs : List X) → All (λ x. f x ≡ g x) xs → filter f xs ≡ filter g xs
filter-same f g [] same = refl
filter-same f g (x ∷ xs) same =
    let here = All-head (λ x. f x ≡ g x) x xs same in
    let rest = filter-same f g xs (All-tail (λ x. f x ≡ g x) x xs same) in
    ap (λ (b : Bool). cond b (x ∷ filter f xs) (filter f xs)) here ∙ ap (λ l. cond (g x) (x ∷ l) l) rest

pub filter-filter : {X : Type 0} (f g : X → Bool) (xs : List X) → filter f (filter g xs) ≡ filter (λ x. g x && f x) xs
filter-filter f g [] = refl
filter-filter f g (x ∷ xs) = elim (cases_Bool (g x)) [
  | inl on ↦ elim (cases_Bool (f x)) [
    | inl pass ↦ rw (on, pass) (ap (λ l. x ∷ l) (filter-filter f g xs))
    | inr fail ↦ rw (on, fail) (filter-filter f g xs)
  ]
  | inr off ↦ rw off (filter-filter f g xs)
]

-- a chosen head, and one that is not
pub filter-on : {X : Type 0} (f : X → Bool) (x : X) (xs : List X) → f x ≡ true → filter f (x ∷ xs) ≡ x ∷ filter f xs
filter-on f x xs on = cond-true (f x) (x ∷ filter f xs) (filter f xs) on

pub filter-off : {X : Type 0} (f : X → Bool) (x : X) (xs : List X) → f x ≡ false → filter f (x ∷ xs) ≡ filter f xs
filter-off f x xs off = cond-false (f x) (x ∷ filter f xs) (filter f xs) off

-- a range with one number more
pub filter-range_more : (f : ℕ → Bool) (a n : ℕ) → filter f (range_with_len a (suc n)) ≡ filter f (range_with_len a n) ++ cond (f (a + n)) ((a + n) ∷ []) []
filter-range_more f a zero = let same : a + 0 ≡ a = omega arith in ap (λ m. cond (f m) (m ∷ []) []) (sym same)
filter-range_more f a (suc n) =
    let same : a + 1 + n ≡ a + suc n = omega arith in
    let rest : filter f (range_with_len (a + 1) (suc n)) ≡ filter f (range_with_len (a + 1) n) ++ cond (f (a + suc n)) ((a + suc n) ∷ []) [] =
    filter-range_more f (a + 1) n ∙ ap (λ m. filter f (range_with_len (a + 1) n) ++ cond (f m) (m ∷ []) []) same in
    elim (cases_Bool (f a)) [
      | inl on ↦ filter-on f a (range_with_len (a + 1) (suc n)) on ∙ ap (λ l. a ∷ l) rest ∙ sym (ap (λ l. l ++ cond (f (a + suc n)) ((a + suc n) ∷ []) []) (filter-on f a (range_with_len (a + 1) n) on))
      | inr off ↦ filter-off f a (range_with_len (a + 1) (suc n)) off ∙ rest ∙ sym (ap (λ l. l ++ cond (f (a + suc n)) ((a + suc n) ∷ []) []) (filter-off f a (range_with_len (a + 1) n) off))
    ]

-- whether a number lies from a on and is one of the next n
abbrev pub between : ℕ → ℕ → ℕ → Bool
between a n q = not (ltb q a) && ltb q (a + n)

between-below : (a n q : ℕ) → q < a → between a n q ≡ false
between-below a n q lt = and_left (not (ltb q a)) (ltb q (a + n)) (ap not (lt-ltb q a lt))

between-above : (a n q : ℕ) → a + n ≤ q → between a n q ≡ false
between-above a n q le = and_right (not (ltb q a)) (ltb q (a + n)) (le-ltb q (a + n) le)

between-in : (a n q : ℕ) → a ≤ q → q < a + n → between a n q ≡ true
between-in a n q low high = and_from (not (ltb q a)) (ltb q (a + n)) (ap not (le-ltb q a low)) (lt-ltb q (a + n) high)

between-later : (a n q : ℕ) → a < q → between (a + 1) n q ≡ between a (suc n) q
between-later a n q lt = elim (cases_lt q (a + suc n)) [
  | inl low ↦ between-in (a + 1) n q (omega arith) (omega arith) ∙ sym (between-in a (suc n) q (omega arith) low)
  | inr high ↦ between-above (a + 1) n q (omega arith) ∙ sym (between-above a (suc n) q high)
]

between-none : (a : ℕ) (xs : List ℕ) → filter (between a 0) xs ≡ []
between-none a [] = refl
between-none a (x ∷ xs) = filter-off (between a 0) x xs (elim (cases_lt x a) [
  | inl lt ↦ between-below a 0 x lt
  | inr ge ↦ between-above a 0 x (omega arith)
]) ∙ between-none a xs

first-chosen : (xs : List ℕ) (a n : ℕ) → RisesBy (λ (m : ℕ). m) xs → cond (has xs a) (a ∷ filter (between (a + 1) n) xs) (filter (between (a + 1) n) xs) ≡ filter (between a (suc n)) xs
first-chosen [] a n rise = refl
first-chosen (x ∷ xs) a n rise =
    let above = rises-head (λ (m : ℕ). m) x xs rise in
    let b = between (a + 1) n in
    let c = between a (suc n) in
    elim (cases_order x a) [
      | inl same ↦
          let later : All (λ y. b y ≡ c y) xs = λ k d lt. between-later a n (get_or xs k d) (let q = above k d lt in omega arith) in
          ap (λ (t : Bool). cond (t || has xs a) (a ∷ filter b (x ∷ xs)) (filter b (x ∷ xs))) (eq-eqb x a same)
          ∙ ap (λ l. a ∷ l) (filter-off b x xs (between-below (a + 1) n x (omega arith)))
          ∙ ap (λ (m : ℕ). m ∷ filter b xs) (sym same)
          ∙ ap (λ l. x ∷ l) (filter-same b c xs later)
          ∙ sym (filter-on c x xs (between-in a (suc n) x (omega arith) (omega arith)))
      | inr o ↦ elim o [
        | inl lt ↦
            ap (λ (t : Bool). cond (t || has xs a) (a ∷ filter b (x ∷ xs)) (filter b (x ∷ xs))) (ne_eqb x a (λ e. omega arith))
            ∙ ap (λ l. cond (has xs a) (a ∷ l) l) (filter-off b x xs (between-below (a + 1) n x (omega arith)))
            ∙ first-chosen xs a n (rises-tail (λ (m : ℕ). m) x xs rise)
            ∙ sym (filter-off c x xs (between-below a (suc n) x lt))
        | inr gt ↦
            let none : has xs a ≡ false = (none-later (λ (m : ℕ). m) a x xs (omega arith) above).1 in
            let later : All (λ y. b y ≡ c y) xs = λ k d lt. between-later a n (get_or xs k d) (let q = above k d lt in omega arith) in
            ap (λ (t : Bool). cond (t || has xs a) (a ∷ filter b (x ∷ xs)) (filter b (x ∷ xs))) (ne_eqb x a (λ e. omega arith))
            ∙ ap (λ (t : Bool). cond t (a ∷ filter b (x ∷ xs)) (filter b (x ∷ xs))) none
            ∙ filter-same b c (x ∷ xs) (All-cons (λ y. b y ≡ c y) x xs (between-later a n x gt) later)
      ]
    ]

-- the members within a range, by testing each number of the range
pub filter-has : (xs : List ℕ) (a n : ℕ) → RisesBy (λ (m : ℕ). m) xs → filter (has xs) (range_with_len a n) ≡ filter (between a n) xs
filter-has xs a zero rise = sym (between-none a xs)
filter-has xs a (suc n) rise = ap (λ l. cond (has xs a) (a ∷ l) l) (filter-has xs (a + 1) n rise) ∙ first-chosen xs a n rise

-- a test that all pass
pub filter-all : {X : Type 0} (f : X → Bool) (xs : List X) → All (λ x. f x ≡ true) xs → filter f xs ≡ xs
filter-all f [] all = refl
filter-all f (x ∷ xs) all = filter-on f x xs (All-head (λ x. f x ≡ true) x xs all) ∙ ap (λ l. x ∷ l) (filter-all f xs (All-tail (λ x. f x ≡ true) x xs all))

-- a set of places below a count is what its test keeps of them
pub members-below : (xs : List ℕ) (n : ℕ) → RisesBy (λ (m : ℕ). m) xs → All (λ x. x < n) xs → filter (has xs) (range_with_len 0 n) ≡ xs
members-below xs n rise low = filter-has xs 0 n rise ∙ filter-all (between 0 n) xs (λ k d lt. between-in 0 n (get_or xs k d) (omega arith) (let q = low k d lt in omega arith))

-- the members of a ring, first those above the place and then those below
pub ring-ranges : (xs : List ℕ) (m : ℕ) → RisesBy (λ (n : ℕ). n) xs → All (λ x. x < 64) xs → m < 64
    → filter (has xs) (range_with_len (m + 1) (64 - (m + 1))) ++ filter (has xs) (range_with_len 0 (m - 0)) ≡ ring m xs
ring-ranges xs m rise low lt =
    let above = filter-has xs (m + 1) (64 - (m + 1)) rise ∙ filter-same (between (m + 1) (64 - (m + 1))) (λ q. ltb m q) xs (λ k d at. upper (get_or xs k d) (low k d at)) in
    let under = filter-has xs 0 (m - 0) rise ∙ filter-same (between 0 (m - 0)) (λ q. ltb q m) xs (λ k d at. lower (get_or xs k d)) in
    ap (λ l. l ++ filter (has xs) (range_with_len 0 (m - 0))) above ∙ ap (λ l. filter (λ q. ltb m q) xs ++ l) under
  where
    upper : (q : ℕ) → q < 64 → between (m + 1) (64 - (m + 1)) q ≡ ltb m q
    upper q most = elim (cases_lt m q) [
      | inl within ↦ between-in (m + 1) (64 - (m + 1)) q (omega arith) (omega arith) ∙ sym (lt-ltb m q within)
      | inr out ↦ between-below (m + 1) (64 - (m + 1)) q (omega arith) ∙ sym (le-ltb m q out)
    ]

    lower : (q : ℕ) → between 0 (m - 0) q ≡ ltb q m
    lower q = elim (cases_lt q m) [
      | inl within ↦ between-in 0 (m - 0) q (omega arith) (omega arith) ∙ sym (lt-ltb q m within)
      | inr out ↦ between-above 0 (m - 0) q (omega arith) ∙ sym (le-ltb q m out)
    ]

-- the first of two lists joined
pub take-both : {X : Type 0} (n : ℕ) (xs ys : List X) → take n (xs ++ ys) ≡ take n xs ++ take (n - length xs) ys
take-both zero xs ys = let e : 0 ≡ 0 - length xs = omega arith in ap (λ m. take m ys) e
take-both (suc n) [] ys = let e : suc n ≡ suc n - 0 = omega arith in ap (λ m. take m ys) e
take-both (suc n) (x ∷ xs) ys = let e : n - length xs ≡ suc n - length (x ∷ xs) = omega arith in ap (λ l. x ∷ l) (take-both n xs ys ∙ ap (λ m. take n xs ++ take m ys) e)
