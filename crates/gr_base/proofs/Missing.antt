-- A search that finds nothing, and one that finds the least member of a rising list that passes.
use Rattle.std.proofs.Common.{◌≡◌, ◌∙◌, ◌<◌, ℕ, Bool, true, false, eqb, List, [], ◌∷◌, Some, None, refl, ap, arith, inl, inr}
use Rattle.std.specs.Prelude.{◌||◌}
use Rattle.std.specs.List.{find, list_any}
use Rattle.std.proofs.lemmas.Bool.{cases_Bool, cases_order, cond-true, cond-false, eq-eqb, ne_eqb, or_left, or_right}
use Rattle.gr_base.specs.Rising.{RisesBy, has}
use Rattle.gr_base.proofs.Rising.{rises-head, rises-tail, none-later}

-- where a search finds nothing, none passes
pub none-any : {X : Type 0} (p : X → Bool) (xs : List X) → find p xs ≡ None → list_any p xs ≡ false
none-any p [] e = refl
none-any p (x ∷ xs) e = elim (cases_Bool (p x)) [
  | inl on ↦ let q = rw on at e in cc
  | inr off ↦ rw off (none-any p xs (rw off at e))
]

pub none-missing : (t : ℕ → Bool) (ps : List ℕ) → ((q : ℕ) → has ps q ≡ true → t q ≡ false) → find t ps ≡ None
none-missing t [] h = refl
none-missing t (x ∷ xs) h =
    cond-false (t x) (Some x) (find t xs) (h x (or_left (eqb x x) (has xs x) (eq-eqb x x refl)))
    ∙ none-missing t xs (λ q s. h q (or_right (eqb x q) (has xs q) s))

without : (a b : Bool) → a ≡ false → (a || b) ≡ true → b ≡ true
without true b off on = cc
without false b off on = on

pub first-missing : (t : ℕ → Bool) (ps : List ℕ) (p : ℕ) → RisesBy (λ (n : ℕ). n) ps → has ps p ≡ true → t p ≡ true → ((q : ℕ) → q < p → has ps q ≡ true → t q ≡ false) → find t ps ≡ Some p
first-missing t [] p r here on before = cc
first-missing t (x ∷ xs) p r here on before = elim (cases_order x p) [
  | inl same ↦ cond-true (t x) (Some x) (find t xs) (ap t same ∙ on) ∙ ap Some same
  | inr apart ↦ elim apart [
    | inl lt ↦
        cond-false (t x) (Some x) (find t xs) (before x lt (or_left (eqb x x) (has xs x) (eq-eqb x x refl)))
        ∙ first-missing t xs p (rises-tail (λ n. n) x xs r) (without (eqb x p) (has xs p) (ne_eqb x p (λ e. omega arith)) here) on (λ q l s. before q l (or_right (eqb x q) (has xs q) s))
    | inr gt ↦
        let off = (none-later (λ n. n) p x xs (omega arith) (rises-head (λ n. n) x xs r)).1 in
        let no = without (eqb x p) (has xs p) (ne_eqb x p (λ e. omega arith)) here in
        cc
  ]
]
