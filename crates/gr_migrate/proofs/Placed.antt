-- What is put together over the places that pass a test, one place after another.
use Rattle.std.proofs.Common.{◌≡◌, ℕ, ◌<◌, ◌+◌, zero, suc, List, [], ◌∷◌, ◌++◌, Bool, true, false, sym, ap, ◌∙◌, arith, map, flat_map}
use Rattle.std.specs.List.{AllByRecursion as Each, filter, range_with_len}
use Rattle.std.proofs.lemmas.Bool.{cond-true, cond-false, lt-ltb, le-ltb}
use Rattle.std.proofs.lemmas.List.{append-nil, map-append}
use Rattle.std.proofs.lemmas.List.Concat.{flat_map-append}
use Rattle.std.proofs.lemmas.List.Elements.{filter-append}
use Rattle.gr_base.specs.Rising.{has}
use Rattle.gr_base.specs.Places.{IsPlaces, below, with_place}
use Rattle.gr_base.proofs.Ranges.{range-within}
use Rattle.gr_lists.proofs.Each.{Each-filter, Each-has}
use Rattle.gr_base.proofs.Members.{members-filter}
use Rattle.gr_base.proofs.PlaceSets.{places-has}

range-more : (a n m : ℕ) → a + n ≡ m → range_with_len a (suc n) ≡ range_with_len a n ++ m ∷ []
range-more a zero m e = ap (λ (k : ℕ). k ∷ []) (omega arith)
range-more a (suc n) m e = ap (λ l. a ∷ l) (range-more (a + 1) n m (omega arith))

pub below-more : (n : ℕ) → below (n + 1) ≡ below n ++ n ∷ []
below-more n = let next : n + 1 ≡ suc n = omega arith in ap below next ∙ range-more 0 n n (omega arith)

-- the places of a set, one after another
pub set-below : (ps : List ℕ) → IsPlaces ps → filter (has ps) (below 64) ≡ ps
set-below ps is = sym (members-filter (has ps) 0 64) ∙ places-has ps is

module _ {X : Type 0} (test : ℕ → Bool) (part : ℕ → List X) where
  -- the parts of the places below n that pass the test
  abbrev pub parts : ℕ → List X
  parts n = flat_map part (filter test (below n))

  pub parts-with : (n : ℕ) → test n ≡ true → parts (n + 1) ≡ parts n ++ part n
  parts-with n on =
      ap (λ l. flat_map part (filter test l)) (below-more n)
      ∙ (ap (flat_map part) (filter-append test (below n) (n ∷ []) ∙ ap (λ l. filter test (below n) ++ l) (cond-true (test n) (n ∷ []) [] on))
      ∙ (flat_map-append part (filter test (below n)) (n ∷ []) ∙ ap (λ l. parts n ++ l) (append-nil (part n))))

  pub parts-same : (n : ℕ) → test n ≡ false → parts (n + 1) ≡ parts n
  parts-same n off =
      ap (λ l. flat_map part (filter test l)) (below-more n)
      ∙ ap (flat_map part) (filter-append test (below n) (n ∷ []) ∙ (ap (λ l. filter test (below n) ++ l) (cond-false (test n) (n ∷ []) [] off) ∙ append-nil (filter test (below n))))

pub map-flat_map : {X Y Z : Type 0} (f : Y → Z) (g : X → List Y) (xs : List X) → map f (flat_map g xs) ≡ flat_map (λ x. map f (g x)) xs
map-flat_map f g [] = λ i. []
map-flat_map f g (x ∷ xs) = map-append f (g x) (flat_map g xs) ∙ ap (λ l. map f (g x) ++ l) (map-flat_map f g xs)

pub filter-flat_map : {X Y : Type 0} (f : Y → Bool) (g : X → List Y) (xs : List X) → filter f (flat_map g xs) ≡ flat_map (λ x. filter f (g x)) xs
filter-flat_map f g [] = λ i. []
filter-flat_map f g (x ∷ xs) = filter-append f (g x) (flat_map g xs) ∙ ap (λ l. filter f (g x) ++ l) (filter-flat_map f g xs)

-- a place above all others goes to the end
with_place-end : (ps : List ℕ) (p : ℕ) → Each (λ q. q < p) ps → with_place ps p ≡ ps ++ p ∷ []
with_place-end [] p h = λ i. p ∷ []
with_place-end (q ∷ qs) p h = let lt : q < p = h.0 in rw (le-ltb p q (omega arith), lt-ltb q p lt) (ap (λ l. q ∷ l) (with_place-end qs p h.1))

module _ (test : ℕ → Bool) where
  -- the places below n that pass, with n
  pub passing-with : (n : ℕ) → test n ≡ true → with_place (filter test (below n)) n ≡ filter test (below (n + 1))
  passing-with n on =
      with_place-end (filter test (below n)) n (Each-filter (λ q. q < n) test (below n) (Each-has (λ q. q < n) (below n) (λ v h. let lt = range-within 0 n v h in omega (arith, lt))))
      ∙ sym (ap (filter test) (below-more n) ∙ (filter-append test (below n) (n ∷ []) ∙ ap (λ l. filter test (below n) ++ l) (cond-true (test n) (n ∷ []) [] on)))

  pub passing-same : (n : ℕ) → test n ≡ false → filter test (below n) ≡ filter test (below (n + 1))
  passing-same n off =
      sym (ap (filter test) (below-more n) ∙ (filter-append test (below n) (n ∷ []) ∙ (ap (λ l. filter test (below n) ++ l) (cond-false (test n) (n ∷ []) [] off) ∙ append-nil (filter test (below n)))))
