-- Whether the places of one set are all in another.
use Rattle.std.proofs.Common.{◌≡◌, ℕ, ◌<◌, arith, List, [], ◌∷◌, true, false, ◌==◌, refl, sym, ap, ◌∙◌, inl, inr}
use Rattle.std.specs.Prelude.{◌||◌}
use Rattle.std.proofs.lemmas.Bool.{cases_Bool, cases_eq, eq-eqb, ne_eqb, and_right, or_right}
use Rattle.std.specs.List.{All, list_any}
use Rattle.gr_base.specs.Rising.{has, includes}
use Rattle.gr_base.proofs.PlaceTests.{has-contains}

later : (q y : ℕ) (ys : List ℕ) → has ys q ≡ true → has (y ∷ ys) q ≡ true
later q y ys on = elim (cases_Bool (y == q)) [
  | inl at ↦ rw at refl
  | inr off ↦ rw off on
]

pub includes-all : (xs ys : List ℕ) → ((q : ℕ) → has ys q ≡ true → has xs q ≡ true) → includes xs ys ≡ true
includes-all xs [] h = refl
includes-all xs (y ∷ ys) h =
    let here : has (y ∷ ys) y ≡ true = rw (eq-eqb y y refl) refl in
    rw (h y here) (includes-all xs ys (λ q on. h q (later q y ys on)))

pub includes-without_one : (xs ys : List ℕ) (q : ℕ) → has ys q ≡ true → has xs q ≡ false → includes xs ys ≡ false
includes-without_one xs [] q on off = sym on
includes-without_one xs (y ∷ ys) q on off = elim (cases_eq y q) [
  | inl same ↦ let gone : has xs y ≡ false = ap (has xs) same ∙ off in rw gone refl
  | inr apart ↦
      let rest : has ys q ≡ true = sym (ap (λ b. b || has ys q) (ne_eqb y q apart)) ∙ on in
      and_right (has xs y) (includes xs ys) (includes-without_one xs ys q rest off)
]

-- what holds of each member below a bound that all are below holds of each member
pub within : (n : ℕ) (ys : List ℕ) (Q : ℕ → Type 0) → All (λ q. q < n) ys → ((q : ℕ) → q < n → has ys q ≡ true → Q q) → (q : ℕ) → has ys q ≡ true → Q q
within n ys Q low h q on = let at = has-contains ys q on in h q (let lt = low at.0 q at.1 in omega (arith, lt, at.2)) on

-- sets that have no place in common, and sets that have one
pub any-none : (xs ys : List ℕ) → ((q : ℕ) → has ys q ≡ true → has xs q ≡ false) → list_any (has xs) ys ≡ false
any-none xs [] h = refl
any-none xs (y ∷ ys) h =
    let here : has (y ∷ ys) y ≡ true = rw (eq-eqb y y refl) refl in
    rw (h y here) (any-none xs ys (λ q on. h q (later q y ys on)))

pub any-some : (xs ys : List ℕ) (q : ℕ) → has ys q ≡ true → has xs q ≡ true → list_any (has xs) ys ≡ true
any-some xs [] q on off = on
any-some xs (y ∷ ys) q on here = elim (cases_eq y q) [
  | inl same ↦ let stands : has xs y ≡ true = ap (has xs) same ∙ here in rw stands refl
  | inr apart ↦
      let rest : has ys q ≡ true = sym (ap (λ b. b || has ys q) (ne_eqb y q apart)) ∙ on in
      or_right (has xs y) (list_any (has xs) ys) (any-some xs ys q rest here)
]
