-- The members of a rising list that a loop over the places has passed, from the least or from the greatest on.
use Rattle.std.proofs.Common.{◌≡◌, ◌∙◌, ◌<◌, ◌≤◌, ◌+◌, ℕ, zero, suc, Bool, true, false, eqb, ltb, List, [], ◌∷◌, ◌++◌, refl, sym, ap, arith, inl, inr}
use Rattle.std.specs.Prelude.{not}
use Rattle.std.specs.List.{All, filter}
use Rattle.std.proofs.lemmas.Bool.{cases_Bool, cases_order, eq-eqb, ne_eqb, ltb-true, lt-ltb, le-ltb, true≢false}
use Rattle.gr_base.specs.Rising.{RisesBy, has}
use Rattle.gr_base.proofs.Rising.{rises-tail, rises-head, none-later}
use Rattle.gr_copies.proofs.Selecting.{filter-on, filter-off, filter-same, filter-all}

abbrev Rises : List ℕ → Type 0
Rises xs = RisesBy (λ (n : ℕ). n) xs

abbrev lesser : ℕ → ℕ → Bool
lesser p q = ltb q p

abbrev rest_of : ℕ → ℕ → Bool
rest_of p q = not (ltb q p)

none-lesser : (n : ℕ) (xs : List ℕ) → All (λ y. n ≤ y) xs → filter (lesser n) xs ≡ []
none-lesser n [] a = refl
none-lesser n (x ∷ xs) a = filter-off (lesser n) x xs (le-ltb x n (a 0 x (omega arith))) ∙ none-lesser n xs (λ k d l. a (suc k) d (omega arith))

-- one place more is passed, and it is no member
next-same : (p q : ℕ) → eqb q p ≡ false → ltb q (p + 1) ≡ ltb q p
next-same p q apart = elim (cases_Bool (ltb q p)) [
  | inl on ↦ let lt = ltb-true q p on in lt-ltb q (p + 1) (omega arith) ∙ sym on
  | inr off ↦ elim (cases_order q p) [
    | inl same ↦ absurd (true≢false (sym (eq-eqb q p same) ∙ apart))
    | inr o ↦ elim o [
      | inl lt ↦ absurd (true≢false (sym (lt-ltb q p lt) ∙ off))
      | inr gt ↦ le-ltb q (p + 1) (omega arith) ∙ sym off
    ]
  ]
]

no-member : (p : ℕ) (xs : List ℕ) → has xs p ≡ false → All (λ q. eqb q p ≡ false) xs
no-member p [] h = λ k d l. absurd (omega arith)
no-member p (x ∷ xs) h = elim (cases_Bool (eqb x p)) [
  | inl on ↦ absurd (stands on h)
  | inr off ↦ apart off (no-member p xs (rw off at h))
]
  where
    stands : eqb x p ≡ true → has (x ∷ xs) p ≡ false → ⊥
    stands on h = true≢false (rw on at h)

    apart : eqb x p ≡ false → All (λ q. eqb q p ≡ false) xs → All (λ q. eqb q p ≡ false) (x ∷ xs)
    apart off later zero d l = off
    apart off later (suc k) d l = later k d (omega arith)

pub passed-off : (p : ℕ) (xs : List ℕ) → has xs p ≡ false → filter (lesser (p + 1)) xs ≡ filter (lesser p) xs
passed-off p xs h = filter-same (lesser (p + 1)) (lesser p) xs (λ k d l. next-same p _ (no-member p xs h k d l))

pub left-off : (p : ℕ) (xs : List ℕ) → has xs p ≡ false → filter (rest_of p) xs ≡ filter (rest_of (p + 1)) xs
left-off p xs h = filter-same (rest_of p) (rest_of (p + 1)) xs (λ k d l. ap not (sym (next-same p _ (no-member p xs h k d l))))

-- one place more is passed, and it is a member
pub passed-on : (p : ℕ) (xs : List ℕ) → Rises xs → has xs p ≡ true → filter (lesser (p + 1)) xs ≡ filter (lesser p) xs ++ p ∷ []
passed-on p [] r h = absurd (true≢false (sym h))
passed-on p (x ∷ xs) r h =
    let above = rises-head (λ (n : ℕ). n) x xs r in
    elim (cases_order x p) [
      | inl same ↦
          filter-on (lesser (p + 1)) x xs (lt-ltb x (p + 1) (omega arith)) ∙ ap (λ l. x ∷ l) (none-lesser (p + 1) xs (λ k d l. let q = above k d l in omega arith))
          ∙ ap (λ n. n ∷ []) same
          ∙ sym (ap (λ l. l ++ p ∷ []) (none-lesser p (x ∷ xs) (from-head same above)))
      | inr o ↦ elim o [
        | inl lt ↦
            let off : eqb x p ≡ false = ne_eqb x p (λ e. omega arith) in
            filter-on (lesser (p + 1)) x xs (lt-ltb x (p + 1) (omega arith)) ∙ ap (λ l. x ∷ l) (passed-on p xs (rises-tail (λ (n : ℕ). n) x xs r) (rw off at h))
            ∙ sym (ap (λ l. l ++ p ∷ []) (filter-on (lesser p) x xs (lt-ltb x p lt)))
        | inr gt ↦ absurd (past gt above h)
      ]
    ]
  where
    from-head : x ≡ p → All (λ y. x < y) xs → All (λ y. p ≤ y) (x ∷ xs)
    from-head same above zero d l = omega arith
    from-head same above (suc k) d l = let q = above k d (omega arith) in omega arith

    past : p < x → All (λ y. x < y) xs → has (x ∷ xs) p ≡ true → ⊥
    past gt above h =
        let off : eqb x p ≡ false = ne_eqb x p (λ e. omega arith) in
        let none : has xs p ≡ false = (none-later (λ (n : ℕ). n) p x xs (omega arith) above).1 in
        true≢false (sym (rw off at h) ∙ none)

pub left-on : (p : ℕ) (xs : List ℕ) → Rises xs → has xs p ≡ true → filter (rest_of p) xs ≡ p ∷ filter (rest_of (p + 1)) xs
left-on p [] r h = absurd (true≢false (sym h))
left-on p (x ∷ xs) r h =
    let above = rises-head (λ (n : ℕ). n) x xs r in
    elim (cases_order x p) [
      | inl same ↦
          let none : has xs p ≡ false = (none-later (λ (n : ℕ). n) p x xs (omega arith) above).1 in
          filter-on (rest_of p) x xs (ap not (le-ltb x p (omega arith))) ∙ ap (λ n. n ∷ filter (rest_of p) xs) same ∙ ap (λ l. p ∷ l) (left-off p xs none)
          ∙ sym (ap (λ l. p ∷ l) (filter-off (rest_of (p + 1)) x xs (ap not (lt-ltb x (p + 1) (omega arith)))))
      | inr o ↦ elim o [
        | inl lt ↦
            let off : eqb x p ≡ false = ne_eqb x p (λ e. omega arith) in
            filter-off (rest_of p) x xs (ap not (lt-ltb x p lt)) ∙ left-on p xs (rises-tail (λ (n : ℕ). n) x xs r) (rw off at h)
            ∙ sym (ap (λ l. p ∷ l) (filter-off (rest_of (p + 1)) x xs (ap not (lt-ltb x (p + 1) (omega arith)))))
        | inr gt ↦ absurd (past gt above h)
      ]
    ]
  where
    past : p < x → All (λ y. x < y) xs → has (x ∷ xs) p ≡ true → ⊥
    past gt above h =
        let off : eqb x p ≡ false = ne_eqb x p (λ e. omega arith) in
        let none : has xs p ≡ false = (none-later (λ (n : ℕ). n) p x xs (omega arith) above).1 in
        true≢false (sym (rw off at h) ∙ none)

-- the start and the end of the loop
pub passed-none : (xs : List ℕ) → filter (lesser 0) xs ≡ []
passed-none xs = none-lesser 0 xs (λ k d l. omega arith)

pub passed-all : (n : ℕ) (xs : List ℕ) → All (λ q. q < n) xs → filter (lesser n) xs ≡ xs
passed-all n xs a = filter-all (lesser n) xs (λ k d l. lt-ltb _ n (a k d l))

pub left-none : (n : ℕ) (xs : List ℕ) → All (λ q. q < n) xs → filter (rest_of n) xs ≡ []
left-none n [] a = refl
left-none n (x ∷ xs) a = filter-off (rest_of n) x xs (ap not (lt-ltb x n (a 0 x (omega arith)))) ∙ left-none n xs (λ k d l. a (suc k) d (omega arith))

pub left-all : (xs : List ℕ) → filter (rest_of 0) xs ≡ xs
left-all xs = filter-all (rest_of 0) xs (λ k d l. ap not (le-ltb _ 0 (omega arith)))
