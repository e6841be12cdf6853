-- What is made of those elements that pass a test, one element after another.
use Rattle.std.proofs.Common.{◌≡◌, ℕ, List, [], ◌∷◌, ◌++◌, Bool, true, false, map, ap, ◌∙◌}
use Rattle.std.specs.List.{filter, fold}
use Rattle.std.proofs.lemmas.Bool.{cond-true, cond-false}
use Rattle.std.proofs.lemmas.List.{append-nil, map-append}
use Rattle.std.proofs.lemmas.List.Elements.{filter-append}
use Rattle.std.proofs.lemmas.List.Sums.{fold-append}
use Rattle.gr_base.specs.Places.{with_place}

module _ {X : Type 0} (test : X → Bool) where
  pub filter-more : (xs : List X) (x : X) → test x ≡ true → filter test (xs ++ x ∷ []) ≡ filter test xs ++ x ∷ []
  filter-more xs x on = filter-append test xs (x ∷ []) ∙ ap (λ l. filter test xs ++ l) (cond-true (test x) (x ∷ []) [] on)

  pub filter-same : (xs : List X) (x : X) → test x ≡ false → filter test (xs ++ x ∷ []) ≡ filter test xs
  filter-same xs x off = filter-append test xs (x ∷ []) ∙ (ap (λ l. filter test xs ++ l) (cond-false (test x) (x ∷ []) [] off) ∙ append-nil (filter test xs))

  pub map-filter-more : {Y : Type 0} (f : X → Y) (xs : List X) (x : X) → test x ≡ true → map f (filter test (xs ++ x ∷ [])) ≡ map f (filter test xs) ++ f x ∷ []
  map-filter-more f xs x on = ap (map f) (filter-more xs x on) ∙ map-append f (filter test xs) (x ∷ [])

  -- the numbers of the elements, put into a rising list
  module _ (key : X → ℕ) (old : List ℕ) where
    abbrev pub gathered : List X → List ℕ
    gathered xs = fold with_place old (map key (filter test xs))

    pub gathered-more : (xs : List X) (x : X) → test x ≡ true → gathered (xs ++ x ∷ []) ≡ with_place (gathered xs) (key x)
    gathered-more xs x on = ap (fold with_place old) (map-filter-more key xs x on) ∙ fold-append with_place old (map key (filter test xs)) (key x ∷ [])

    pub gathered-same : (xs : List X) (x : X) → test x ≡ false → gathered (xs ++ x ∷ []) ≡ gathered xs
    gathered-same xs x off = ap (λ l. fold with_place old (map key l)) (filter-same xs x off)

  pub gathered-append : (key : X → ℕ) (old : List ℕ) (xs ys : List X) → gathered key old (xs ++ ys) ≡ gathered key (gathered key old xs) ys
  gathered-append key old xs ys =
      ap (λ l. fold with_place old (map key l)) (filter-append test xs ys)
      ∙ (ap (fold with_place old) (map-append key (filter test xs) (filter test ys)) ∙ fold-append with_place old (map key (filter test xs)) (map key (filter test ys)))
