-- At load a vertex has as many holders as bear the losses, or as there are places.
use Rattle.std.proofs.Common.{◌≡◌, ◌<◌, ◌≤◌, ℕ, zero, suc, ◌+◌, ◌-◌, List, [], ◌∷◌, ◌++◌, Bool, true, false, cond, not, ◌==◌, ◌&&◌, ◌||◌, nat_lt, filter, length, min, take, refl, sym, ap, ◌∙◌, arith, eq-eqb, eqb-true, ltb-true, ltb-false}
use Rattle.std.specs.Prelude.{count_by, ⊤}
use Rattle.std.specs.List.{AllByRecursion as Each}
use Rattle.std.proofs.Math.Nat.{mod-lt}
use Rattle.std.proofs.lemmas.Bool.{and_from, and_left, and_parts, and_right, both_ways, not-true, or_left, or_parts, or_right}
use Rattle.std.proofs.lemmas.List.{length-take}
use Rattle.std.proofs.lemmas.List.Elements.{All-filter}
use Rattle.std.proofs.lemmas.List.FromFn.{length-range_with_len}
use Rattle.std.proofs.lemmas.List.Sums.{length-filter}
use Rattle.gr_base.specs.declared.records.Edge.{Edge}
use Rattle.gr_base.specs.Rising.{RisesBy, has, without}
use Rattle.gr_base.specs.Places.{below, ring}
use Rattle.gr_base.proofs.Ranges.{has-range, range-rises}
use Rattle.gr_base.proofs.Rising.{filter-rises, none-later, rises-head, rises-tail}
use Rattle.gr_cut.specs.Cut.{home}
use Rattle.gr_copies.specs.Holders.{has_edge_of, needed_holders, more_holders, first_holders}
use Rattle.gr_copies.proofs.Selecting.{filter-filter, members-below}
use Rattle.gr_lists.proofs.Any.{has-filter, list_any-is}
use Rattle.gr_lists.proofs.Counts.{one_if, count_by-cons, count_by-or, some-counted}
use Rattle.gr_lists.proofs.Each.{Each-always, Each-append, Each-filter, Each-has}
use Rattle.gr_lists.proofs.Tests.{by_test}
use Rattle.gr_law_rounds.proofs.Load.Ranges.{range-below}

-- ---- lists without a number twice

abbrev Apart : List ℕ → Type 0
Apart [] = ⊤
Apart (x ∷ xs) = (has xs x ≡ false) × Apart xs

has-take : (n q : ℕ) (xs : List ℕ) → has xs q ≡ false → has (take n xs) q ≡ false
has-take zero q [] h = refl
has-take (suc n) q [] h = refl
has-take zero q (x ∷ xs) h = refl
has-take (suc n) q (x ∷ xs) h = let k = or_parts (x == q) (has xs q) h in rw k.0 (has-take n q xs k.1)

apart-rising : (xs : List ℕ) → RisesBy (λ (n : ℕ). n) xs → Apart xs
apart-rising [] r = tt
apart-rising (x ∷ xs) r =
    ((none-later (λ (n : ℕ). n) x x xs (omega arith) (rises-head (λ (n : ℕ). n) x xs r)).1, apart-rising xs (rises-tail (λ (n : ℕ). n) x xs r))

apart-filter : (f : ℕ → Bool) (xs : List ℕ) → Apart xs → Apart (filter f xs)
apart-filter f [] a = tt
apart-filter f (x ∷ xs) a = by_test (f x)
    (λ k. rw k (has-filter f xs x ∙ and_left (has xs x) (f x) a.0, apart-filter f xs a.1))
    (λ k. rw k (apart-filter f xs a.1))

apart-take : (n : ℕ) (xs : List ℕ) → Apart xs → Apart (take n xs)
apart-take zero [] a = tt
apart-take (suc n) [] a = tt
apart-take zero (x ∷ xs) a = tt
apart-take (suc n) (x ∷ xs) a = (has-take n x xs a.0, apart-take n xs a.1)

has-append : (xs ys : List ℕ) (q : ℕ) → has (xs ++ ys) q ≡ (has xs q || has ys q)
has-append [] ys q = refl
has-append (x ∷ xs) ys q = ap (λ b. (x == q) || b) (has-append xs ys q) ∙ grouped (x == q) (has xs q) (has ys q)
  where
    grouped : (a b c : Bool) → (a || (b || c)) ≡ ((a || b) || c)
    grouped true b c = refl
    grouped false b c = refl

apart-append : (xs ys : List ℕ) → Apart xs → Apart ys → ((q : ℕ) → has xs q ≡ true → has ys q ≡ false) → Apart (xs ++ ys)
apart-append [] ys a b other = b
apart-append (x ∷ xs) ys a b other = (
  has-append xs ys x ∙ (λ i. a.0 i || other x (or_left _ _ (eq-eqb x x refl)) i),
  apart-append xs ys a.1 b (λ q m. other q (or_right _ _ m)),
)

Each-take : (Q : ℕ → Type 0) (n : ℕ) (xs : List ℕ) → Each Q xs → Each Q (take n xs)
Each-take Q zero [] h = tt
Each-take Q (suc n) [] h = tt
Each-take Q zero (x ∷ xs) h = tt
Each-take Q (suc n) (x ∷ xs) h = (h.0, Each-take Q n xs h.1)

-- numbers of a list that are apart are counted there, each
count-apart : (xs ys : List ℕ) → Apart xs → Each (λ x. has ys x ≡ true) xs → length xs ≤ count_by (has xs) ys
count-apart [] ys a h = omega arith
count-apart (x ∷ xs) ys a h =
    let ih = count-apart xs ys a.1 h.1 in
    let split = count_by-or (has (x ∷ xs)) (λ q. x == q) (has xs) ys (Each-always _ (λ q. (refl, once q)) ys) in
    let one = some-counted (λ q. x == q) ys (list_any-is x ys ∙ h.0) in omega (arith, ih, split, one)
  where
    once : (q : ℕ) → ((x == q) && has xs q) ≡ false
    once q = by_test (x == q)
        (λ e. rw e (ap (has xs) (sym (eqb-true x q e)) ∙ a.0))
        (λ e. rw e refl)

count-both : (f : ℕ → Bool) (xs : List ℕ) → count_by f xs + count_by (λ x. not (f x)) xs ≡ length xs
count-both f [] = refl
count-both f (x ∷ xs) =
    let ih = count-both f xs in let c = count_by-cons f x xs in let d = count_by-cons (λ x. not (f x)) x xs in by_test (f x)
    (λ e. let one : one_if f x ≡ 1 = ap (λ b. cond b 1 0) e in let none : one_if (λ x. not (f x)) x ≡ 0 = ap (λ b. cond (not b) 1 0) e in omega (arith, ih, c, d, one, none))
    (λ e. let none : one_if f x ≡ 0 = ap (λ b. cond b 1 0) e in let one : one_if (λ x. not (f x)) x ≡ 1 = ap (λ b. cond (not b) 1 0) e in omega (arith, ih, c, d, one, none))

-- ---- a ring without some places, its start among them

module _ (m n : ℕ) (gone : List ℕ) (start : has gone m ≡ true) where
  abbrev after : List ℕ
  after = filter (λ q. nat_lt m q) (below n)

  abbrev before : List ℕ
  before = filter (λ q. nat_lt q m) (below n)

  abbrev left : ℕ → Bool
  left q = not (has gone q)

  ring-apart : Apart (ring m (below n))
  ring-apart = apart-append after before (part (λ q. nat_lt m q)) (part (λ q. nat_lt q m)) (λ q a.
      by_test (has before q)
      (λ b. absurd (
      let lt = ltb-true m q (and_parts (has (below n) q) (nat_lt m q) (sym (has-filter (λ q. nat_lt m q) (below n) q) ∙ a)).1 in
      let gt = ltb-true q m (and_parts (has (below n) q) (nat_lt q m) (sym (has-filter (λ q. nat_lt q m) (below n) q) ∙ b)).1 in omega (arith, lt, gt)))
      (λ b. b))
    where
      part : (f : ℕ → Bool) → Apart (filter f (below n))
      part f = apart-filter f (below n) (apart-rising (below n) (range-rises 0 n))

  ring-below : Each (λ q. has (below n) q ≡ true) (ring m (below n))
  ring-below = Each-append _ after before (Each-filter _ (λ q. nat_lt m q) (below n) itself) (Each-filter _ (λ q. nat_lt q m) (below n) itself)
    where
      itself : Each (λ q. has (below n) q ≡ true) (below n)
      itself = Each-has _ (below n) (λ q k. k)

  filter-append : (f : ℕ → Bool) (xs ys : List ℕ) → length (filter f (xs ++ ys)) ≡ length (filter f xs) + length (filter f ys)
  filter-append f [] ys = omega arith
  filter-append f (x ∷ xs) ys = let ih = filter-append f xs ys in by_test (f x) (λ k. rw k (omega (arith, ih))) (λ k. rw k ih)

  half : (h : ℕ → Bool) → length (filter left (filter h (below n))) ≡ count_by (λ q. h q && left q) (below n)
  half h = ap length (filter-filter left h (below n)) ∙ length-filter (λ q. h q && left q) (below n)

  -- all the places that are not gone stand there
  ring-long : length (without (ring m (below n)) gone) ≡ count_by left (below n)
  ring-long =
      let both = filter-append left after before in let a = half (λ q. nat_lt m q) in let b = half (λ q. nat_lt q m) in
      let split = count_by-or left (λ q. nat_lt m q && left q) (λ q. nat_lt q m && left q) (below n) (Each-always _ each (below n)) in
      omega (arith, both, a, b, split)
    where
      parts : (x y l : Bool) → (l ≡ true → (x || y) ≡ true) → (x && y) ≡ false → (l ≡ ((x && l) || (y && l))) × (((x && l) && (y && l)) ≡ false)
      parts true true l some apart = absurd (let bad : true ≡ false = apart in cc)
      parts true false true some apart = (refl, refl)
      parts true false false some apart = (refl, refl)
      parts false true true some apart = (refl, refl)
      parts false true false some apart = (refl, refl)
      parts false false true some apart = absurd (let bad : false ≡ true = some refl in cc)
      parts false false false some apart = (refl, refl)

      some : (q : ℕ) → left q ≡ true → (nat_lt m q || nat_lt q m) ≡ true
      some q l = by_test (nat_lt m q)
          (λ a. or_left _ _ a)
          (λ a. by_test (nat_lt q m)
          (λ b. or_right _ _ b)
          (λ b. absurd (let le = ltb-false m q a in let ge = ltb-false q m b in let same : m ≡ q = omega (arith, le, ge) in
          both_ways (has gone q) (not-true (has gone q) l) (ap (has gone) (sym same) ∙ start))))

      never : (q : ℕ) → (nat_lt m q && nat_lt q m) ≡ false
      never q = by_test (nat_lt m q)
          (λ a. by_test (nat_lt q m) (λ b. absurd (let lt = ltb-true m q a in let gt = ltb-true q m b in omega (arith, lt, gt))) (λ b. rw (a, b) refl))
          (λ a. and_left _ _ a)

      each : (q : ℕ) → (left q ≡ ((nat_lt m q && left q) || (nat_lt q m && left q))) × (((nat_lt m q && left q) && (nat_lt q m && left q)) ≡ false)
      each q = parts (nat_lt m q) (nat_lt q m) (left q) (some q) (never q)

-- ---- the holders at load

module _ (places theta losses : ℕ) (es : List Edge) (some : 1 ≤ places) (v : ℕ) where
  abbrev needed : List ℕ
  needed = needed_holders places theta losses es v

  abbrev more : List ℕ
  more = more_holders places theta losses es v

  abbrev candidates : List ℕ
  candidates = without (ring (home places v) (below places)) needed

  abbrev need : ℕ
  need = min (losses + 1) places

  abbrev is_needed : ℕ → Bool
  is_needed p = (home places v == p) || has_edge_of places theta losses es v p

  home-needed : has needed (home places v) ≡ true
  home-needed = has-filter is_needed (below places) (home places v)
      ∙ and_from _ _ (has-range 0 places (home places v) (omega arith) (let lt = mod-lt v some in omega (arith, lt))) (or_left _ _ (eq-eqb (home places v) (home places v) refl))

  needed-count : count_by (has needed) (below places) ≡ length needed
  needed-count = sym (length-filter (has needed) (below places))
      ∙ ap length (members-below needed places (filter-rises (λ (n : ℕ). n) is_needed (below places) (range-rises 0 places))
      (All-filter is_needed (λ p. p < places) (below places) (range-below 0 places places (omega arith))))

  more-long : length more ≡ min (need - length needed) (places - length needed)
  more-long =
      let taken = length-take (need - length needed) candidates in
      let all = ring-long (home places v) places needed home-needed in
      let both = count-both (has needed) (below places) in
      let n = length-range_with_len 0 places in
      let k = needed-count in
      omega (arith, taken, all, both, n, k)

  more-counted : length more ≤ count_by (has more) (below places)
  more-counted = count-apart more (below places)
      (apart-take (need - length needed) candidates (apart-filter (λ q. not (has needed q)) (ring (home places v) (below places)) (ring-apart (home places v) places needed home-needed)))
      (Each-take _ (need - length needed) candidates (Each-filter _ (λ q. not (has needed q)) (ring (home places v) (below places)) (ring-below (home places v) places needed home-needed)))

  -- no further holder is a needed one
  further : (q : ℕ) → (has needed q && has more q) ≡ false
  further q = by_test (has needed q)
      (λ k. rw k (has-take (need - length needed) q candidates (has-filter (λ q. not (has needed q)) (ring (home places v) (below places)) q ∙ and_right (has (ring (home places v) (below places)) q) (not (has needed q)) (ap not k))))
      (λ k. and_left _ _ k)

  pub holders-enough : min (losses + 1) places ≤ length (first_holders places theta losses es v)
  unfolding first_holders
  holders-enough =
      let long = length-filter (λ p. has needed p || has more p) (below places) in
      let split = count_by-or (λ p. has needed p || has more p) (has needed) (has more) (below places) (Each-always _ (λ q. (refl, further q)) (below places)) in
      let a = needed-count in let b = more-counted in let m = more-long in
      omega (arith, long, split, a, b, m)
