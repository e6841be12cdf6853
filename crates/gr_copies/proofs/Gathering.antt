-- Places gathered from a range, as long as some are missing.
use Rattle.std.proofs.Common.{◌≡◌, ◌∙◌, ◌<◌, ◌≤◌, ◌+◌, ◌-◌, ℕ, zero, suc, Bool, true, false, not, eqb, ltb, cond, List, [], ◌∷◌, ◌++◌, length, take, get_or, refl, ap, sym, arith, ◌⊎◌, inl, inr, length-append}
use Rattle.std.specs.Prelude.{◌&&◌, ◌||◌}
use Rattle.std.specs.List.{filter, range_with_len}
use Rattle.std.proofs.Math.Bool.{or-false, or_assoc, and_comm}
use Rattle.std.proofs.lemmas.Bool.{ltb-true, ltb-false}
use Rattle.std.proofs.lemmas.List.{append-nil, take-append-le, take_all}
use Rattle.std.proofs.lemmas.List.Folds.{list_any-append}
use Rattle.std.proofs.lemmas.List.Elements.{filter-append}
use Rattle.gr_base.specs.Rising.{has, without}
use Rattle.gr_base.specs.Places.{with_place, ring, IsPlaces}
use Rattle.gr_base.proofs.WithPlace.{has-with_place}
use Rattle.gr_copies.proofs.Selecting.{filter-same, filter-filter, filter-range_more, take-both, ring-ranges}

-- the places before, with the first of the candidates in the range, and how many are missing still
pub record IsGathered (before candidates : List ℕ) (from to count : ℕ) (places : List ℕ) (missing : ℕ) : Type 0 where
  pub members : (r : ℕ) → has places r ≡ (has before r || has (take count (filter (has candidates) (range_with_len from (to - from)))) r)
  pub left : missing ≡ count - length (filter (has candidates) (range_with_len from (to - from)))

module _ (before c : List ℕ) (a p n : ℕ) (ps : List ℕ) (m : ℕ) (low : a ≤ p) (was : IsGathered before c a p n ps m) where
  abbrev found : List ℕ
  found = filter (has c) (range_with_len a (p - a))

  found-more : filter (has c) (range_with_len a (p + 1 - a)) ≡ found ++ cond (has c p) (p ∷ []) []
  found-more =
      let longer : suc (p - a) ≡ p + 1 - a = omega arith in
      let last : a + (p - a) ≡ p = omega arith in
      ap (λ k. filter (has c) (range_with_len a k)) (sym longer)
      ∙ filter-range_more (has c) a (p - a)
      ∙ ap (λ k. found ++ cond (has c k) (k ∷ []) []) last

  pub gathered-hit : has c p ≡ true → 0 < m → IsGathered before c a (p + 1) n (with_place ps p) (m - 1)
  gathered-hit on some =
      let next : filter (has c) (range_with_len a (p + 1 - a)) ≡ found ++ p ∷ [] = found-more ∙ ap (λ (b : Bool). found ++ cond b (p ∷ []) []) on in
      let long : length (filter (has c) (range_with_len a (p + 1 - a))) ≡ length found + 1 = ap length next ∙ length-append found (p ∷ []) in
      let room : length found + 1 ≤ n = omega (arith, was.left) in
      let all : take n (filter (has c) (range_with_len a (p + 1 - a))) ≡ found ++ p ∷ [] = take_all n (filter (has c) (range_with_len a (p + 1 - a))) (omega (arith, long, room)) ∙ next in
      let so_far : take n found ≡ found = take_all n found (omega arith) in
      record {
        members = λ r.
            has-with_place ps p r
            ∙ ap (λ (b : Bool). b || eqb p r) (was.members r)
            ∙ ap (λ l. (has before r || has l r) || eqb p r) so_far
            ∙ or_assoc (has before r) (has found r) (eqb p r)
            ∙ ap (λ (b : Bool). has before r || (has found r || b)) (sym (or-false (eqb p r)))
            ∙ ap (λ (b : Bool). has before r || b) (sym (list_any-append (λ x. eqb x r) found (p ∷ [])))
            ∙ ap (λ l. has before r || has l r) (sym all);
        left = omega (arith, was.left, long);
      }

  pub gathered-not : has c p ≡ false → IsGathered before c a (p + 1) n ps m
  gathered-not off =
      let next : filter (has c) (range_with_len a (p + 1 - a)) ≡ found = found-more ∙ ap (λ (b : Bool). found ++ cond b (p ∷ []) []) off ∙ append-nil found in
      record {
        members = λ r. was.members r ∙ ap (λ l. has before r || has (take n l) r) (sym next);
        left = was.left ∙ ap (λ l. n - length l) (sym next);
      }

  pub gathered-full : m ≡ 0 → IsGathered before c a (p + 1) n ps m
  gathered-full none =
      let full : n ≤ length found = omega (arith, was.left) in
      let more = cond (has c p) (p ∷ []) [] in
      let long : length (filter (has c) (range_with_len a (p + 1 - a))) ≡ length found + length more = ap length found-more ∙ length-append found more in
      record {
        members = λ r. was.members r ∙ ap (λ l. has before r || has l r) (sym (ap (take n) found-more ∙ take-append-le n found more full));
        left = omega (arith, was.left, long);
      }

take-nil : (n : ℕ) → take {A = ℕ} n [] ≡ []
take-nil zero = refl
take-nil (suc n) = refl

-- nothing is gathered from an empty range
pub gathered-none : (before c : List ℕ) (a n : ℕ) → IsGathered before c a a n before n
gathered-none before c a n =
    let none : a - a ≡ 0 = omega arith in
    let empty : filter (has c) (range_with_len a (a - a)) ≡ [] = ap (λ k. filter (has c) (range_with_len a k)) none in
    record {
      members = λ r. sym (or-false (has before r)) ∙ ap (λ l. has before r || has l r) (sym (take-nil n)) ∙ ap (λ l. has before r || has (take n l) r) (sym empty);
      left = (let e : n ≡ n - 0 = omega arith in e) ∙ ap (λ l. n - length l) (sym empty);
    }

-- a test of both
pub both-true : (a : Bool) (m : ℕ) → (a && ltb 0 m) ≡ true → (a ≡ true) × (0 < m)
both-true true m e = (refl, ltb-true 0 m e)
both-true false m e = cc

pub not-both : (a : Bool) (m : ℕ) → (a && ltb 0 m) ≡ false → (a ≡ false) ⊎ (m ≡ 0)
not-both true m e = let le = ltb-false 0 m e in inr (omega arith)
not-both false m e = inl refl

-- gathered above a place and then below it
pub gathered-ring : (before c : List ℕ) (m n : ℕ) (ps qs : List ℕ) (k j : ℕ) → IsPlaces c → m < 64 → IsGathered before c (m + 1) 64 n ps k → IsGathered ps c 0 m k qs j
    → (r : ℕ) → has qs r ≡ (has before r || has (take n (ring m c)) r)
gathered-ring before c m n ps qs k j are lt above under = λ r.
    let upper = filter (has c) (range_with_len (m + 1) (64 - (m + 1))) in
    let lower = filter (has c) (range_with_len 0 (m - 0)) in
    under.members r
    ∙ ap (λ (b : Bool). b || has (take k lower) r) (above.members r)
    ∙ ap (λ i. (has before r || has (take n upper) r) || has (take i lower) r) above.left
    ∙ or_assoc (has before r) (has (take n upper) r) (has (take (n - length upper) lower) r)
    ∙ ap (λ (b : Bool). has before r || b) (sym (list_any-append (λ x. eqb x r) (take n upper) (take (n - length upper) lower)))
    ∙ ap (λ l. has before r || has l r) (sym (take-both n upper lower))
    ∙ ap (λ l. has before r || has (take n l) r) (ring-ranges c m are.rise are.below lt)

-- the ring of those left is what is left of the ring
pub ring-without : (m : ℕ) (xs gone : List ℕ) → ring m (without xs gone) ≡ without (ring m xs) gone
ring-without m xs gone =
    ap (λ l. l ++ filter (λ q. ltb q m) (without xs gone)) (swap (λ q. ltb m q) xs)
    ∙ ap (λ l. filter (λ q. not (has gone q)) (filter (λ q. ltb m q) xs) ++ l) (swap (λ q. ltb q m) xs)
    ∙ sym (filter-append (λ q. not (has gone q)) (filter (λ q. ltb m q) xs) (filter (λ q. ltb q m) xs))
  where
    swap : (f : ℕ → Bool) (xs : List ℕ) → filter f (without xs gone) ≡ without (filter f xs) gone
    swap f xs = filter-filter f (λ q. not (has gone q)) xs ∙ filter-same _ _ xs (λ k d lt. and_comm (not (has gone (get_or xs k d))) (f (get_or xs k d))) ∙ sym (filter-filter (λ q. not (has gone q)) f xs)
