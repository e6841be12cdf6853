-- A map from the numbers of items to the items, with one more.
use Rattle.std.proofs.Common.{◌≡◌, ℕ, List, [], ◌∷◌, map, refl, sym, ap, arith, inl, inr}
use Rattle.std.specs.Ordering.{nat_cmp}
use Rattle.std.specs.BTreeMap.{insert_entry}
use Rattle.std.proofs.lemmas.Bool.{cases_order, eq-eqb, ne_eqb, lt-ltb, le-ltb}
use Rattle.gr_base.specs.Rising.{with_item}

module _ {X : Type 0} (key : X → ℕ) where
  -- an item under its number
  abbrev pub numbered : X → ℕ × X
  numbered x = (key x, x)

  pub insert_entry-numbered : (x : X) (ys : List X) → insert_entry nat_cmp (map numbered ys) (key x) x ≡ map numbered (with_item key x ys)
  insert_entry-numbered x [] = refl
  insert_entry-numbered x (y ∷ ys) = elim (cases_order (key x) (key y)) [
    | inl same ↦ rw (le-ltb (key x) (key y) (omega arith), eq-eqb (key x) (key y) same, le-ltb (key y) (key x) (omega arith), eq-eqb (key y) (key x) (sym same)) (ap (λ (n : ℕ). (n, x) ∷ map numbered ys) (sym same))
    | inr o ↦ elim o [
      | inl lt ↦ rw (lt-ltb (key x) (key y) lt, le-ltb (key y) (key x) (omega arith), ne_eqb (key y) (key x) (λ e. omega arith)) refl
      | inr gt ↦ rw (le-ltb (key x) (key y) (omega arith), ne_eqb (key x) (key y) (λ e. omega arith), lt-ltb (key y) (key x) gt) (ap (λ l. numbered y ∷ l) (insert_entry-numbered x ys))
    ]
  ]
