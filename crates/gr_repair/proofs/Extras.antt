-- The further holders of a vertex: they are live, so they are the same as a set of places, and there are some where the holders are too few.
use Rattle.std.proofs.Common.{◌≡◌, ◌≢◌, ◌∙◌, ◌-◌, ◌<◌, ◌≤◌, ℕ, zero, suc, get_or, Bool, true, false, not, eqb, ltb, List, [], ◌∷◌, length, take, refl, ap, sym, arith, inl, inr}
use Rattle.std.specs.Prelude.{◌&&◌, ◌||◌, min}
use Rattle.std.specs.Cmp.{nat_eq_equiv}
use Rattle.std.specs.List.{All, filter, find}
use Rattle.std.proofs.Math.Bool.{and-false}
use Rattle.std.proofs.lemmas.Bool.{cases_Bool, cases_lt, or_left, or_right, and_from, lt-ltb, le-ltb, ne_eqb}
use Rattle.std.proofs.lemmas.List.Folds.{list_any-append}
use Rattle.std.proofs.lemmas.Map.Keys.{IsDistinct-from_apart}
use Rattle.std.proofs.lemmas.Map.Made.{length-le_from_is_member}
use Rattle.gr_base.specs.Rising.{RisesBy, has, without}
use Rattle.gr_base.specs.Places.{below, ring}
use Rattle.gr_base.proofs.Ranges.{has-range}
use Rattle.gr_copies.specs.Holders.{extras}
use Rattle.gr_copies.proofs.Granting.{member-below}
use Rattle.gr_lists.proofs.Any.{has-filter, list_any-is, find-none_of, find-one_of}
use Rattle.gr_lists.proofs.Tests.{by_option}

first-of : (a b : Bool) → (a && b) ≡ true → a ≡ true
first-of true b e = refl
first-of false b e = e

one-of : (a b r : Bool) → (a || b) ≡ true → (a ≡ true → r ≡ true) → (b ≡ true → r ≡ true) → r ≡ true
one-of true b r e left right = left refl
one-of false b r e left right = right e

-- what passes stands in the whole list
passing-stands : (f : ℕ → Bool) (xs : List ℕ) (q : ℕ) → has (filter f xs) q ≡ true → has xs q ≡ true
passing-stands f xs q h = first-of (has xs q) (f q) (sym (has-filter f xs q) ∙ h)

taken-stands : (n : ℕ) (xs : List ℕ) (q : ℕ) → has (take n xs) q ≡ true → has xs q ≡ true
taken-stands zero xs q h = cc
taken-stands (suc n) [] q h = h
taken-stands (suc n) (x ∷ xs) q h = one-of (eqb x q) (has (take n xs) q) (has (x ∷ xs) q) h
    (λ e. or_left (eqb x q) (has xs q) e)
    (λ e. or_right (eqb x q) (has xs q) (taken-stands n xs q e))

ring-stands : (m : ℕ) (ps : List ℕ) (q : ℕ) → has (ring m ps) q ≡ true → has ps q ≡ true
ring-stands m ps q h = one-of (has (filter (λ p. ltb m p) ps) q) (has (filter (λ p. ltb p m) ps) q) (has ps q)
    (sym (list_any-append (λ p. eqb p q) (filter (λ p. ltb m p) ps) (filter (λ p. ltb p m) ps)) ∙ h)
    (passing-stands (λ p. ltb m p) ps q)
    (passing-stands (λ p. ltb p m) ps q)

-- a further holder is a live place
extra-live : (live : List ℕ) (need m : ℕ) (hs : List ℕ) (q : ℕ) → has (extras live need m hs) q ≡ true → has live q ≡ true
extra-live live need m hs q h =
    ring-stands m live q (passing-stands (λ x. not (has hs x)) (ring m live) q (taken-stands _ (without (ring m live) hs) q h))

-- some numbers below a bound, as a set
module _ (n : ℕ) (xs : List ℕ) (low : (q : ℕ) → has xs q ≡ true → q < n) where
  pub has-set : (q : ℕ) → has (filter (has xs) (below n)) q ≡ has xs q
  has-set q = has-filter (has xs) (below n) q ∙ elim (cases_Bool (has xs q)) [
    | inl on ↦ rw (on, has-range 0 n q (omega arith) (omega (arith, low q on))) refl
    | inr off ↦ rw off (and-false (has (below n) q))
  ]

module _ (live : List ℕ) (places : ℕ) (few : places ≤ 64) (low : All (λ q. q < places) live) (need m : ℕ) (hs : List ℕ) where
  pub extra-below : (q : ℕ) → has (extras live need m hs) q ≡ true → q < 64
  extra-below q h = let lt = member-below live q places (extra-live live need m hs q h) low in omega arith

ring-has : (m : ℕ) (ps : List ℕ) (q : ℕ) → q ≢ m → has ps q ≡ true → has (ring m ps) q ≡ true
ring-has m ps q apart here = list_any-append (λ p. eqb p q) (filter (λ p. ltb m p) ps) (filter (λ p. ltb p m) ps) ∙ elim (cases_lt q m) [
  | inl lt ↦ or_right (has (filter (λ p. ltb m p) ps) q) (has (filter (λ p. ltb p m) ps) q) (has-filter (λ p. ltb p m) ps q ∙ and_from (has ps q) (ltb q m) here (lt-ltb q m lt))
  | inr ge ↦ or_left (has (filter (λ p. ltb m p) ps) q) (has (filter (λ p. ltb p m) ps) q) (has-filter (λ p. ltb m p) ps q ∙ and_from (has ps q) (ltb m q) here (lt-ltb m q (omega arith)))
]

-- of more places than there are holders, one holds nothing
outside : (ps hs : List ℕ) → RisesBy (λ p. p) ps → length hs < length ps → (q : ℕ) × (has ps q ≡ true) × (has hs q ≡ false)
outside ps hs rise more = by_option (find (λ p. not (has hs p)) ps)
    (λ none.
    let held : (q : ℕ) → has ps q ≡ true → has hs q ≡ true = λ q h. shown (has hs q) (find-none_of (λ p. not (has hs p)) ps q none h) in
    let distinct = IsDistinct-from_apart eqb ps (λ i j d lt l. ne_eqb (get_or ps i d) (get_or ps j d) (λ e. let r = rise i j d lt l in omega arith)) in
    let le = length-le_from_is_member nat_eq_equiv ps hs distinct (λ q h. list_any-is q hs ∙ held q (sym (list_any-is q ps) ∙ h)) in
    absurd (omega arith))
    (λ q some. let is = find-one_of (λ p. not (has hs p)) ps q some in (q, is.1, hidden (has hs q) is.0))
  where
    shown : (b : Bool) → not b ≡ false → b ≡ true
    shown true e = refl
    shown false e = sym e

    hidden : (b : Bool) → not b ≡ true → b ≡ false
    hidden true e = sym e
    hidden false e = refl

some-taken : (k : ℕ) (ys : List ℕ) (q : ℕ) → 0 < k → has ys q ≡ true → 0 < length (take k ys)
some-taken zero ys q more here = absurd (omega arith)
some-taken (suc k) [] q more here = cc
some-taken (suc k) (y ∷ ys) q more here = omega arith

-- there are further holders exactly where the holders are fewer than are needed, and than are live
pub some-extra : (live : List ℕ) (need m : ℕ) (hs : List ℕ) → RisesBy (λ p. p) live → has hs m ≡ true
    → ltb 0 (length (extras live need m hs)) ≡ ltb (length hs) (min need (length live))
some-extra live need m hs rise master = elim (cases_lt (length hs) (min need (length live))) [
  | inl few ↦
      let q = outside live hs rise (omega arith) in
      let apart : q.0 ≢ m = λ e. both (has hs q.0) q.2 (ap (has hs) e ∙ master) in
      let here : has (without (ring m live) hs) q.0 ≡ true =
      has-filter (λ x. not (has hs x)) (ring m live) q.0 ∙ and_from (has (ring m live) q.0) (not (has hs q.0)) (ring-has m live q.0 apart q.1) (ap not q.2) in
      lt-ltb 0 (length (extras live need m hs)) (some-taken (min need (length live) - length hs) (without (ring m live) hs) q.0 (omega arith) here) ∙ sym (lt-ltb (length hs) (min need (length live)) few)
  | inr enough ↦
      let none : min need (length live) - length hs ≡ 0 = omega arith in
      ap (λ n. ltb 0 (length (take n (without (ring m live) hs)))) none ∙ sym (le-ltb (length hs) (min need (length live)) enough)
]
  where
    both : (b : Bool) → b ≡ false → b ≡ true → ⊥
    both true e f = cc
    both false e f = cc
