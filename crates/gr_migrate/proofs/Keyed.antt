-- Ordered sets of numbers: an insert puts a number into a rising list.
use Rattle.std.proofs.Common.{◌≡◌, ◌==◌, ℕ, List, [], ◌∷◌, refl, sym, ap, subst, arith, inl, inr}
use Rattle.std.specs.List.{fold}
use Rattle.std.specs.Ordering.{nat_cmp}
use Rattle.std.specs.BTreeMap.{is_at}
use Rattle.std.specs.BTreeSet.{insert_key}
use Rattle.std.proofs.lemmas.Bool.{cases_order, eq-eqb, ne_eqb, lt-ltb, le-ltb}
use Rattle.gr_base.specs.Rising.{RisesBy, with_item}
use Rattle.gr_base.proofs.Rising.{with-rises}
use Rattle.gr_base.specs.Places.{with_place}

pub insert_key-place : (ns : List ℕ) (n : ℕ) → insert_key nat_cmp ns n ≡ with_place ns n
insert_key-place [] n = refl
insert_key-place (x ∷ xs) n = elim (cases_order x n) [
  | inl same ↦ rw (le-ltb n x (omega arith), eq-eqb n x (sym same), le-ltb x n (omega arith)) refl
  | inr o ↦ elim o [
    | inl lt ↦ rw (le-ltb n x (omega arith), ne_eqb n x (λ e. omega arith), lt-ltb x n lt) (ap (λ l. x ∷ l) (insert_key-place xs n))
    | inr gt ↦ rw (lt-ltb n x gt) refl
  ]
]

pub is_at-number : (k n : ℕ) → is_at (nat_cmp k) n ≡ (k == n)
is_at-number k n = elim (cases_order k n) [
  | inl same ↦ rw (le-ltb k n (omega arith), eq-eqb k n same) refl
  | inr o ↦ elim o [
    | inl lt ↦ rw (lt-ltb k n lt, ne_eqb k n (λ e. omega arith)) refl
    | inr gt ↦ rw (le-ltb k n (omega arith), ne_eqb k n (λ e. omega arith)) refl
  ]
]

place-item : (ns : List ℕ) (n : ℕ) → with_place ns n ≡ with_item (λ (k : ℕ). k) n ns
place-item [] n = refl
place-item (x ∷ xs) n = elim (cases_order x n) [
  | inl same ↦ rw (le-ltb n x (omega arith), le-ltb x n (omega arith), eq-eqb x n same) (ap (λ (k : ℕ). k ∷ xs) same)
  | inr o ↦ elim o [
    | inl lt ↦ rw (le-ltb n x (omega arith), lt-ltb x n lt) (ap (λ l. x ∷ l) (place-item xs n))
    | inr gt ↦ rw (lt-ltb n x gt, le-ltb x n (omega arith), ne_eqb x n (λ e. omega arith)) refl
  ]
]

-- numbers put into a rising list make one that rises
pub rising-rises : (ns old : List ℕ) → RisesBy (λ (n : ℕ). n) old → RisesBy (λ (n : ℕ). n) (fold with_place old ns)
rising-rises [] old r = r
rising-rises (n ∷ ns) old r = rising-rises ns (with_place old n) (subst (RisesBy (λ (k : ℕ). k)) (sym (place-item old n)) (with-rises (λ (k : ℕ). k) n old r))
