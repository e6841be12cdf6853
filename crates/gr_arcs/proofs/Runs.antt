-- In a list sorted by a key, the elements of one key stand together.
use Rattle.std.proofs.Common.{◌≡◌, ◌∙◌, ◌<◌, ◌≤◌, ◌+◌, ◌-◌, ℕ, suc, Bool, eqb, ltb, List, [], ◌∷◌, take, drop, refl, sym, ap, arith, inl, inr}
use Rattle.std.specs.List.{All, filter, prefix_len}
use Rattle.std.specs.List.Sorted.{IsNonDecreasingBy}
use Rattle.std.proofs.lemmas.Bool.{cases_Bool, cases_eq, cond-true, cond-false, ltb-true, ltb-false, lt-ltb, le-ltb, eq-eqb, ne_eqb}

module _ {X : Type 0} (key : X → ℕ) (v : ℕ) where
  abbrev here : X → Bool
  here x = eqb (key x) v

  -- how many stand before the first of a key that is not below
  abbrev pub before : ℕ → List X → ℕ
  before w xs = prefix_len (λ x. ltb (key x) w) xs

  none-above : (xs : List X) → All (λ x. v < key x) xs → filter here xs ≡ []
  none-above [] a = refl
  none-above (x ∷ xs) a =
      let lt : v < key x = a 0 x (omega arith) in
      cond-false (eqb (key x) v) (x ∷ filter here xs) (filter here xs) (ne_eqb (key x) v (λ e. omega arith)) ∙ none-above xs (λ k d l. a (suc k) d (omega arith))

  sorted-tail : (x : X) (xs : List X) → IsNonDecreasingBy key (x ∷ xs) → IsNonDecreasingBy key xs
  sorted-tail x xs r = λ i j d h l. r (suc i) (suc j) d (omega arith) (omega arith)

  before-yes : (w : ℕ) (x : X) (xs : List X) → key x < w → before w (x ∷ xs) ≡ suc (before w xs)
  before-yes w x xs lt = cond-true {A = ℕ} (ltb (key x) w) (1 + before w xs) 0 (lt-ltb (key x) w lt) ∙ omega arith

  before-no : (w : ℕ) (x : X) (xs : List X) → w ≤ key x → before w (x ∷ xs) ≡ 0
  before-no w x xs le = cond-false {A = ℕ} (ltb (key x) w) (1 + before w xs) 0 (le-ltb (key x) w le)

  -- where none is below, those of the key come first
  first-of-key : (xs : List X) → IsNonDecreasingBy key xs → All (λ x. v ≤ key x) xs → take (before (v + 1) xs) xs ≡ filter here xs
  first-of-key [] r a = refl
  first-of-key (x ∷ xs) r a = elim (cases_eq (key x) v) [
    | inl same ↦
        ap (λ n. take n (x ∷ xs)) (before-yes (v + 1) x xs (omega arith))
        ∙ ap (λ l. x ∷ l) (first-of-key xs (sorted-tail x xs r) (λ k d l. a (suc k) d (omega arith)))
        ∙ sym (cond-true (eqb (key x) v) (x ∷ filter here xs) (filter here xs) (eq-eqb (key x) v same))
    | inr apart ↦
        let le : v ≤ key x = a 0 x (omega arith) in
        ap (λ n. take n (x ∷ xs)) (before-no (v + 1) x xs (omega arith))
        ∙ sym (none-above (x ∷ xs) (λ k d l. let q = r 0 k d (omega arith) l in omega arith))
  ]

  pub before-more : (xs : List X) → before v xs ≤ before (v + 1) xs
  before-more [] = omega arith
  before-more (x ∷ xs) = elim (cases_Bool (ltb (key x) v)) [
    | inl on ↦
        let lt = ltb-true (key x) v on in
        omega (arith, before-yes v x xs lt, before-yes (v + 1) x xs (omega arith), before-more xs)
    | inr off ↦ omega (arith, before-no v x xs (ltb-false (key x) v off))
  ]

  -- those of the key stand from the first that is not below to the first that is above
  pub run-of-key : (xs : List X) → IsNonDecreasingBy key xs → take (before (v + 1) xs - before v xs) (drop (before v xs) xs) ≡ filter here xs
  run-of-key [] r = refl
  run-of-key (x ∷ xs) r = elim (cases_Bool (ltb (key x) v)) [
    | inl on ↦
        let lt = ltb-true (key x) v on in
        let less : suc (before (v + 1) xs) - suc (before v xs) ≡ before (v + 1) xs - before v xs = omega arith in
        ap (λ n. take (n - before v (x ∷ xs)) (drop (before v (x ∷ xs)) (x ∷ xs))) (before-yes (v + 1) x xs (omega arith))
        ∙ ap (λ n. take (suc (before (v + 1) xs) - n) (drop n (x ∷ xs))) (before-yes v x xs lt)
        ∙ ap (λ n. take n (drop (before v xs) xs)) less
        ∙ run-of-key xs (sorted-tail x xs r)
        ∙ sym (cond-false (eqb (key x) v) (x ∷ filter here xs) (filter here xs) (ne_eqb (key x) v (λ q. omega arith)))
    | inr off ↦
        let le = ltb-false (key x) v off in
        let all : before (v + 1) (x ∷ xs) - 0 ≡ before (v + 1) (x ∷ xs) = omega arith in
        ap (λ n. take (before (v + 1) (x ∷ xs) - n) (drop n (x ∷ xs))) (before-no v x xs le)
        ∙ ap (λ n. take n (x ∷ xs)) all
        ∙ first-of-key (x ∷ xs) r (λ k d l. let q = r 0 k d (omega arith) l in omega arith)
  ]
