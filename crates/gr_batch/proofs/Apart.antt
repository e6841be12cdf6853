-- Tellings none of which begins another: so two lists of items that the same numbers begin with go along with each other.
use Rattle.std.proofs.Common.{◌≡◌, ◌≢◌, ◌∙◌, ◌⊎◌, ℕ, suc, List, [], ◌∷◌, ◌++◌, All, refl, sym, ap, subst, append_assoc, arith, inl, inr}
use Rattle.std.specs.List.{flat_map}
use Rattle.std.proofs.lemmas.List.{append-nil}
use Rattle.std.proofs.lemmas.List.Concat.{flat_map-cons}
use Rattle.gr_batch.specs.Reading.{HasNoFront}

pub All-append_right : {X : Type 0} (P : X → Type 0) (xs ys : List X) → All P (xs ++ ys) → All P ys
All-append_right P [] ys h = h
All-append_right P (x ∷ xs) ys h = All-append_right P xs ys (λ i d l. h (suc i) d (omega arith))

module _ {X : Type 0} (told : X → List ℕ) (Fits : X → Type 0) where
  -- no telling of a value that fits begins that of another
  pub record IsApart : Type 0 where
    pub same : (x y : X) (r s : List ℕ) → Fits x → Fits y → told x ++ r ≡ told y ++ s → (x ≡ y) × (r ≡ s)

  -- the second list goes on where the first ends, and so do the numbers
  pub record GoesOn (xs ys : List X) (r s : List ℕ) : Type 0 where
    pub more : List X
    pub items : ys ≡ xs ++ more
    pub numbers : r ≡ flat_map told more ++ s

  goes_on-cons : (x y : X) (xs ys : List X) (r s : List ℕ) → x ≡ y → GoesOn xs ys r s → GoesOn (x ∷ xs) (y ∷ ys) r s
  goes_on-cons x y xs ys r s same g = record { more = g.more; items = ap (λ (z : X). z ∷ ys) (sym same) ∙ ap (λ (l : List X). x ∷ l) g.items; numbers = g.numbers }

  pub told-cons : (x : X) (xs : List X) (r : List ℕ) → flat_map told (x ∷ xs) ++ r ≡ told x ++ (flat_map told xs ++ r)
  told-cons x xs r = ap (λ (l : List ℕ). l ++ r) (flat_map-cons told x xs) ∙ append_assoc (told x) (flat_map told xs) r

  pub one-goes_on : IsApart → (xs ys : List X) (r s : List ℕ) → All Fits xs → All Fits ys → flat_map told xs ++ r ≡ flat_map told ys ++ s → GoesOn xs ys r s ⊎ GoesOn ys xs s r
  one-goes_on apart [] ys r s fx fy e = inl (record { more = ys; items = refl; numbers = e })
  one-goes_on apart (x ∷ xs) [] r s fx fy e = inr (record { more = x ∷ xs; items = refl; numbers = sym e })
  one-goes_on apart (x ∷ xs) (y ∷ ys) r s fx fy e =
      let first = apart.same x y (flat_map told xs ++ r) (flat_map told ys ++ s) (fx 0 x (omega arith)) (fy 0 x (omega arith)) (sym (told-cons x xs r) ∙ e ∙ told-cons y ys s) in
      elim (one-goes_on apart xs ys r s (λ i d l. fx (suc i) d (omega arith)) (λ i d l. fy (suc i) d (omega arith)) first.1) [
        | inl g ↦ inl (goes_on-cons x y xs ys r s first.0 g)
        | inr g ↦ inr (goes_on-cons y x ys xs s r (sym first.0) g)
      ]

  -- where more numbers follow, and no item stands first among them, the numbers are those of no list
  pub no-list : IsApart → (xs ys : List X) (whole rest : List ℕ) → whole ≡ flat_map told xs ++ rest → All Fits xs → (rest ≡ [] → ⊥) → HasNoFront told Fits rest → All Fits ys → whole ≢ flat_map told ys
  no-list apart xs ys whole rest parts fx some none fy e =
      elim (one-goes_on apart xs ys rest [] fx fy (sym parts ∙ e ∙ sym (append-nil (flat_map told ys)))) [
        | inl g ↦ absurd (after g.more (ys-more g.more g.items) g.numbers)
        | inr g ↦ some (right-nil (flat_map told g.more) rest (sym g.numbers))
      ]
    where
      right-nil : (a b : List ℕ) → a ++ b ≡ [] → b ≡ []
      right-nil [] b e = e
      right-nil (x ∷ a) b e = absurd cc

      ys-more : (more : List X) → ys ≡ xs ++ more → All Fits more
      ys-more more is = All-append_right Fits xs more (subst (λ (l : List X). All Fits l) is fy)

      after : (more : List X) → All Fits more → rest ≡ flat_map told more ++ [] → ⊥
      after [] f is = some is
      after (y ∷ more) f is = none y (flat_map told more ++ []) (f 0 y (omega arith)) (is ∙ told-cons y more [])
