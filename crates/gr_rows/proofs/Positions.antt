-- The positions of the elements that pass a test: where they stand, and what a change of the list leaves of them.
use Rattle.std.proofs.Common.{◌≡◌, ◌∙◌, ◌<◌, ◌≤◌, ◌+◌, ◌-◌, ℕ, zero, suc, Bool, true, false, List, [], ◌∷◌, ◌++◌, length, get_or, set, map, take, ltb, Some, None, refl, ap, sym, subst, arith, inl, inr}
use Rattle.std.specs.Prelude.{slice_get}
use Rattle.std.specs.List.{All, filter, insert, prefix_len}
use Rattle.std.proofs.lemmas.Bool.{cases_Bool, cond-true, cond-false, lt-ltb, le-ltb}
use Rattle.std.proofs.lemmas.List.{take_more, length-take-le}
use Rattle.std.proofs.lemmas.List.Elements.{All-cons}
use Rattle.std.proofs.lemmas.Option.{slice_get_past}
use Rattle.gr_base.specs.Rising.{RisesBy}
use Rattle.gr_base.proofs.Rising.{rises-cons}
use Rattle.gr_rows.specs.Positions.{positions_from}

-- none of a list of numbers is below a bound
prefix_none : (m : ℕ) (ns : List ℕ) → All (λ n. m ≤ n) ns → prefix_len (λ (n : ℕ). ltb n m) ns ≡ 0
prefix_none m [] a = refl
prefix_none m (n ∷ ns) a = cond-false (ltb n m) _ _ (le-ltb n m (a 0 n (omega arith)))

-- an element put in changes nothing before it
pub take-insert : {X : Type 0} (xs : List X) (i : ℕ) (y : X) → i ≤ length xs → take i (insert xs i y) ≡ take i xs
take-insert [] zero y l = refl
take-insert [] (suc i) y l = absurd (omega arith)
take-insert (x ∷ xs) zero y l = refl
take-insert (x ∷ xs) (suc i) y l = ap (λ t. x ∷ t) (take-insert xs i y (omega arith))

module _ {X : Type 0} (p : X → Bool) where
  abbrev positions : ℕ → List X → List ℕ
  positions k xs = positions_from p k xs

  positions-from_k : (k : ℕ) (xs : List X) → All (λ n. k ≤ n) (positions_from p k xs)
  positions-from_k k [] = λ i d l. absurd (omega arith)
  positions-from_k k (x ∷ xs) =
      let rest : All (λ n. k ≤ n) (positions_from p (k + 1) xs) = λ i d l. let q = positions-from_k (k + 1) xs i d l in omega arith in
      elim (cases_Bool (p x)) [
        | inl on ↦ rw on (All-cons (λ n. k ≤ n) k (positions_from p (k + 1) xs) (omega arith) rest)
        | inr off ↦ rw off rest
      ]

  pub positions-rise : (k : ℕ) (xs : List X) → RisesBy (λ (n : ℕ). n) (positions_from p k xs)
  positions-rise k [] = λ i j d h l. absurd (omega arith)
  positions-rise k (x ∷ xs) = elim (cases_Bool (p x)) [
    | inl on ↦ rw on (rises-cons (λ (n : ℕ). n) k (positions_from p (k + 1) xs) (λ i d l. let q = positions-from_k (k + 1) xs i d l in omega arith) (positions-rise (k + 1) xs))
    | inr off ↦ rw off (positions-rise (k + 1) xs)
  ]

  pub positions-few : (k : ℕ) (xs : List X) → length (positions_from p k xs) ≤ length xs
  positions-few k [] = omega arith
  positions-few k (x ∷ xs) = elim (cases_Bool (p x)) [
    | inl on ↦ rw on (omega (arith, positions-few (k + 1) xs))
    | inr off ↦ rw off (omega (arith, positions-few (k + 1) xs))
  ]

  pub length-positions : (k : ℕ) (xs : List X) → length (positions_from p k xs) ≡ length (filter p xs)
  length-positions k [] = refl
  length-positions k (x ∷ xs) = elim (cases_Bool (p x)) [
    | inl on ↦ rw on (ap suc (length-positions (k + 1) xs))
    | inr off ↦ rw off (length-positions (k + 1) xs)
  ]

  positions-append : (k : ℕ) (xs ys : List X) → positions_from p k (xs ++ ys) ≡ positions_from p k xs ++ positions_from p (k + length xs) ys
  positions-append k [] ys = ap (λ n. positions_from p n ys) (omega arith)
  positions-append k (x ∷ xs) ys =
      let sum : k + 1 + length xs ≡ k + suc (length xs) = omega arith in
      let rest = positions-append (k + 1) xs ys ∙ ap (λ n. positions_from p (k + 1) xs ++ positions_from p n ys) sum in
      elim (cases_Bool (p x)) [ inl on ↦ rw on (ap (λ l. k ∷ l) rest) | inr off ↦ rw off rest ]

  more : (xs : List X) (i : ℕ) (d : X) → i < length xs → positions_from p 0 (take (i + 1) xs) ≡ positions_from p 0 (take i xs) ++ positions_from p i (get_or xs i d ∷ [])
  more xs i d l =
      let n : 0 + length (take i xs) ≡ i = omega (arith, length-take-le i xs (omega arith)) in
      ap (positions_from p 0) (take_more xs i d l) ∙ positions-append 0 (take i xs) (get_or xs i d ∷ []) ∙ ap (λ n. positions_from p 0 (take i xs) ++ positions_from p n (get_or xs i d ∷ [])) n

  -- one element more, which passes
  pub positions_more : (xs : List X) (i : ℕ) (d : X) → i < length xs → p (get_or xs i d) ≡ true → positions_from p 0 (take (i + 1) xs) ≡ positions_from p 0 (take i xs) ++ i ∷ []
  positions_more xs i d l on = more xs i d l ∙ ap (λ t. positions_from p 0 (take i xs) ++ t) (cond-true (p (get_or xs i d)) (i ∷ []) [] on)

  -- one element more, which does not pass
  pub positions_same : (xs : List X) (i : ℕ) (d : X) → i < length xs → p (get_or xs i d) ≡ false → positions_from p 0 (take (i + 1) xs) ≡ positions_from p 0 (take i xs) ++ []
  positions_same xs i d l off = more xs i d l ∙ ap (λ t. positions_from p 0 (take i xs) ++ t) (cond-false (p (get_or xs i d)) (i ∷ []) [] off)

  cut : (k j m : ℕ) (xs : List X) → m ≡ k + j → take (prefix_len (λ (n : ℕ). ltb n m) (positions_from p k xs)) (positions_from p k xs) ≡ positions_from p k (take j xs)
  cut k zero m [] e = refl
  cut k (suc j) m [] e = refl
  cut k zero m (x ∷ xs) e = ap (λ n. take n (positions_from p k (x ∷ xs))) (prefix_none m (positions_from p k (x ∷ xs)) (λ i d l. let q = positions-from_k k (x ∷ xs) i d l in omega arith))
  cut k (suc j) m (x ∷ xs) e = elim (cases_Bool (p x)) [
    | inl on ↦
        let lt : ltb k m ≡ true = lt-ltb k m (omega arith) in
        let rest = positions_from p (k + 1) xs in
        let step : 1 + prefix_len (λ (n : ℕ). ltb n m) (positions_from p (k + 1) xs) ≡ suc (prefix_len (λ (n : ℕ). ltb n m) (positions_from p (k + 1) xs)) = omega arith in
        rw (on, lt) (ap (λ n. take n (k ∷ rest)) step ∙ ap (λ l. k ∷ l) (cut (k + 1) j m xs (omega arith)))
    | inr off ↦ rw off (cut (k + 1) j m xs (omega arith))
  ]

  -- the positions below one are those in the front of the list
  pub take-positions : (m : ℕ) (xs : List X) → take (prefix_len (λ (n : ℕ). ltb n m) (positions_from p 0 xs)) (positions_from p 0 xs) ≡ positions_from p 0 (take m xs)
  take-positions m xs = cut 0 m m xs (omega arith)

  -- an element that passes as that in its place does
  pub positions-set_same : (k j : ℕ) (xs : List X) (y d : X) → p y ≡ p (get_or xs j d) → positions_from p k (set xs j y) ≡ positions_from p k xs
  positions-set_same k j [] y d e = refl
  positions-set_same k zero (x ∷ xs) y d e = rw e refl
  positions-set_same k (suc j) (x ∷ xs) y d e =
      let rest = positions-set_same (k + 1) j xs y d e in
      elim (cases_Bool (p x)) [ inl on ↦ rw on (ap (λ l. k ∷ l) rest) | inr off ↦ rw off rest ]

  -- a change after which the same elements pass
  pub positions-map_same : (f : X → X) → ((x : X) → p (f x) ≡ p x) → (k : ℕ) (xs : List X) → positions_from p k (map f xs) ≡ positions_from p k xs
  positions-map_same f same k [] = refl
  positions-map_same f same k (x ∷ xs) = rw (same x, positions-map_same f same (k + 1) xs) refl

  -- a change after which none passes
  pub positions-map_none : (f : X → X) → ((x : X) → p (f x) ≡ false) → (k : ℕ) (xs : List X) → positions_from p k (map f xs) ≡ []
  positions-map_none f none k [] = refl
  positions-map_none f none k (x ∷ xs) = cond-false (p (f x)) _ _ (none x) ∙ positions-map_none f none (k + 1) xs

  positions_none : (k : ℕ) (xs : List X) → ((i : ℕ) (d : X) → i < length xs → p (get_or xs i d) ≡ false) → positions_from p k xs ≡ []
  positions_none k [] none = refl
  positions_none k (x ∷ xs) none = cond-false (p x) _ _ (none 0 x (omega arith)) ∙ positions_none (k + 1) xs (λ i d l. none (suc i) d (omega arith))

  -- an element that passes, after all others that do
  pub positions-set_last : (k j : ℕ) (xs : List X) (y : X) → p y ≡ true → j < length xs → ((i : ℕ) (d : X) → j ≤ i → i < length xs → p (get_or xs i d) ≡ false) → positions_from p k (set xs j y) ≡ positions_from p k xs ++ (k + j) ∷ []
  positions-set_last k j [] y on l none = absurd (omega arith)
  positions-set_last k zero (x ∷ xs) y on l none =
      let off : p x ≡ false = none 0 x (omega arith) (omega arith) in
      let rest : positions_from p (k + 1) xs ≡ [] = positions_none (k + 1) xs (λ i d h. none (suc i) d (omega arith) (omega arith)) in
      let sum : k ≡ k + 0 = omega arith in
      rw (on, off, rest) (ap (λ (n : ℕ). n ∷ []) sum)
  positions-set_last k (suc j) (x ∷ xs) y on l none =
      let sum : k + 1 + j ≡ k + suc j = omega arith in
      let rest = positions-set_last (k + 1) j xs y on (omega arith) (λ i d h q. none (suc i) d (omega arith) (omega arith)) ∙ ap (λ n. positions_from p (k + 1) xs ++ n ∷ []) sum in
      elim (cases_Bool (p x)) [ inl up ↦ rw up (ap (λ l. k ∷ l) rest) | inr off ↦ rw off rest ]

  set_first-from : (f : X → X) → ((x : X) → p (f x) ≡ false) → (k at : ℕ) (xs : List X) (rest : List ℕ) (d : X) → positions_from p k xs ≡ at ∷ rest → (k ≤ at) × ((at - k < length xs) × (positions_from p k (set xs (at - k) (f (get_or xs (at - k) d))) ≡ rest))
  set_first-from f none k at [] rest d e = cc
  set_first-from f none k at (x ∷ xs) rest d e = elim (cases_Bool (p x)) [
    | inl on ↦
        let e' : k ∷ positions_from p (k + 1) xs ≡ at ∷ rest = sym (cond-true (p x) (k ∷ positions_from p (k + 1) xs) (positions_from p (k + 1) xs) on) ∙ e in
        let a : k ≡ at = cc in
        let r : positions_from p (k + 1) xs ≡ rest = cc in
        let z : at - k ≡ 0 = omega arith in
        (omega arith, (omega arith, ap (λ n. positions_from p k (set (x ∷ xs) n (f (get_or (x ∷ xs) n d)))) z ∙ cond-false (p (f x)) _ _ (none x) ∙ r))
    | inr off ↦
        let e' : positions_from p (k + 1) xs ≡ at ∷ rest = sym (cond-false (p x) (k ∷ positions_from p (k + 1) xs) (positions_from p (k + 1) xs) off) ∙ e in
        let q = set_first-from f none (k + 1) at xs rest d e' in
        let le : k + 1 ≤ at = q.0 in
        let lt : at - (k + 1) < length xs = q.1.0 in
        let s : at - k ≡ suc (at - (k + 1)) = omega arith in
        (omega arith, (omega arith, ap (λ n. positions_from p k (set (x ∷ xs) n (f (get_or (x ∷ xs) n d)))) s ∙ cond-false (p x) _ _ off ∙ q.1.1))
  ]

  -- the first element that passes is changed so that it does not
  pub positions-set_first : (f : X → X) → ((x : X) → p (f x) ≡ false) → (at : ℕ) (xs : List X) (rest : List ℕ) (d : X) → positions_from p 0 xs ≡ at ∷ rest → (at < length xs) × (positions_from p 0 (set xs at (f (get_or xs at d))) ≡ rest)
  positions-set_first f none at xs rest d e =
      let q = set_first-from f none 0 at xs rest d e in
      let z : at ≡ at - 0 = omega arith in
      (omega (arith, q.1.0), ap (λ n. positions_from p 0 (set xs n (f (get_or xs n d)))) z ∙ q.1.1)

  -- if none passes, a change of those that pass changes nothing
  pub map-none_pass : (f : X → X) → ((x : X) → p x ≡ false → f x ≡ x) → (k : ℕ) (xs : List X) → positions_from p k xs ≡ [] → map f xs ≡ xs
  map-none_pass f same k [] e = refl
  map-none_pass f same k (x ∷ xs) e = elim (cases_Bool (p x)) [
    | inl on ↦ let q : k ∷ positions_from p (k + 1) xs ≡ [] = sym (cond-true (p x) (k ∷ positions_from p (k + 1) xs) (positions_from p (k + 1) xs) on) ∙ e in cc
    | inr off ↦
        let q : positions_from p (k + 1) xs ≡ [] = sym (cond-false (p x) (k ∷ positions_from p (k + 1) xs) (positions_from p (k + 1) xs) off) ∙ e in
        rw (same x off) (ap (λ l. x ∷ l) (map-none_pass f same (k + 1) xs q))
  ]

  nth-from : (k i e : ℕ) (xs : List X) (d : X) → i < length (positions_from p k xs) → (k ≤ get_or (positions_from p k xs) i e) × ((get_or (positions_from p k xs) i e < k + length xs) × (slice_get (filter p xs) i ≡ Some (get_or xs (get_or (positions_from p k xs) i e - k) d)))
  nth-from k i e [] d l = absurd (omega arith)
  nth-from k i e (x ∷ xs) d l =
      let ih = λ (i : ℕ) (h : i < length (positions_from p (k + 1) xs)). nth-from (k + 1) i e xs d h in
      elim (cases_Bool (p x)) [
        | inl on ↦ rw on (first ih i (subst (λ (n : ℕ). i < n) (ap length (cond-true (p x) (k ∷ positions_from p (k + 1) xs) (positions_from p (k + 1) xs) on)) l))
        | inr off ↦ rw off (later ih i (subst (λ (n : ℕ). i < n) (ap length (cond-false (p x) (k ∷ positions_from p (k + 1) xs) (positions_from p (k + 1) xs) off)) l))
      ]
    where
      later : ((i : ℕ) → i < length (positions_from p (k + 1) xs) → (k + 1 ≤ get_or (positions_from p (k + 1) xs) i e) × ((get_or (positions_from p (k + 1) xs) i e < k + 1 + length xs) × (slice_get (filter p xs) i ≡ Some (get_or xs (get_or (positions_from p (k + 1) xs) i e - (k + 1)) d)))) → (i : ℕ) → i < length (positions_from p (k + 1) xs) → (k ≤ get_or (positions_from p (k + 1) xs) i e) × ((get_or (positions_from p (k + 1) xs) i e < k + suc (length xs)) × (slice_get (filter p xs) i ≡ Some (get_or (x ∷ xs) (get_or (positions_from p (k + 1) xs) i e - k) d)))
      later ih i h =
          let q = ih i h in
          let at : ℕ = get_or (positions_from p (k + 1) xs) i e in
          let le : k + 1 ≤ at = q.0 in
          let lt : at < k + 1 + length xs = q.1.0 in
          let s : suc (at - (k + 1)) ≡ at - k = omega arith in
          (omega arith, (omega arith, q.1.1 ∙ ap (λ n. Some (get_or (x ∷ xs) n d)) s))

      first : ((i : ℕ) → i < length (positions_from p (k + 1) xs) → (k + 1 ≤ get_or (positions_from p (k + 1) xs) i e) × ((get_or (positions_from p (k + 1) xs) i e < k + 1 + length xs) × (slice_get (filter p xs) i ≡ Some (get_or xs (get_or (positions_from p (k + 1) xs) i e - (k + 1)) d)))) → (i : ℕ) → i < suc (length (positions_from p (k + 1) xs)) → (k ≤ get_or (k ∷ positions_from p (k + 1) xs) i e) × ((get_or (k ∷ positions_from p (k + 1) xs) i e < k + suc (length xs)) × (slice_get (x ∷ filter p xs) i ≡ Some (get_or (x ∷ xs) (get_or (k ∷ positions_from p (k + 1) xs) i e - k) d)))
      first ih zero h = let z : 0 ≡ k - k = omega arith in (omega arith, (omega arith, ap (λ n. Some (get_or (x ∷ xs) n d)) z))
      first ih (suc i) h = later ih i (omega arith)

  -- the i-th element that passes stands at the i-th position
  pub nth-position : (i e : ℕ) (xs : List X) (d : X) → i < length (positions_from p 0 xs) → (get_or (positions_from p 0 xs) i e < length xs) × (slice_get (filter p xs) i ≡ Some (get_or xs (get_or (positions_from p 0 xs) i e) d))
  nth-position i e xs d l =
      let q = nth-from 0 i e xs d l in
      let z : get_or (positions_from p 0 xs) i e - 0 ≡ get_or (positions_from p 0 xs) i e = omega arith in
      (omega (arith, q.1.0), q.1.1 ∙ ap (λ n. Some (get_or xs n d)) z)

  pub nth-no_position : (i : ℕ) (xs : List X) → length (positions_from p 0 xs) ≤ i → slice_get (filter p xs) i ≡ None
  nth-no_position i xs l = slice_get_past (filter p xs) i (omega (arith, length-positions 0 xs))
