-- Whether a field is a number, by the numeral that stands at its front.
use Rattle.std.proofs.Common.{◌≡◌, ◌≢◌, ℕ, ◌+◌, ◌^◌, ◌<◌, ◌≤◌, Bool, true, false, ltb, List, [], ◌∷◌, length, refl, ◌∙◌, ap, sym, subst, inl, inr, arith}
use Rattle.std.specs.List.{list_all, prefix_len}
use Rattle.std.specs.Char.{is_ascii_digit}
use Rattle.std.specs.Str.Parse.{digits_value}
use Rattle.std.proofs.lemmas.Bool.{cases_Bool, cases_lt, cond-true, cond-false, lt-ltb, le-ltb, and_from, and_parts}
use Rattle.std.proofs.lemmas.List.{take_all}
use Rattle.std.proofs.lemmas.List.Folds.{length-prefix_len}
use Rattle.gr_base.specs.declared.numbers.Numeral.TheVariants.{NoDigits, TooLarge, Is}
use Rattle.gr_base.specs.Numeral.{numeral_at, numeral_of, digits_at}

all-from_prefix : (p : ℕ → Bool) (xs : List ℕ) → prefix_len p xs ≡ length xs → list_all p xs ≡ true
all-from_prefix p [] is = refl
all-from_prefix p (x ∷ xs) is = elim (cases_Bool (p x)) [
  | inl passes ↦ let one : prefix_len p (x ∷ xs) ≡ 1 + prefix_len p xs = cond-true (p x) _ _ passes in and_from (p x) (list_all p xs) passes (all-from_prefix p xs (omega (arith, one, is)))
  | inr fails ↦ let none : prefix_len p (x ∷ xs) ≡ 0 = cond-false (p x) _ _ fails in absurd (omega (arith, none, is))
]

prefix-from_all : (p : ℕ → Bool) (xs : List ℕ) → list_all p xs ≡ true → prefix_len p xs ≡ length xs
prefix-from_all p [] all = refl
prefix-from_all p (x ∷ xs) all =
    let parts = and_parts (p x) (list_all p xs) all in
    cond-true (p x) _ _ parts.0 ∙ omega (arith, prefix-from_all p xs parts.1)

-- what a numeral says of its digits
of_Is : (ds : List ℕ) (e value end : ℕ) → numeral_of ds e ≡ Is value end → (digits_value 10 ds < 2 ^ 32) × (digits_value 10 ds ≡ value) × (e ≡ end)
of_Is [] e value end is = absurd (cc)
of_Is (d ∷ ds) e value end is = elim (cases_lt (digits_value 10 (d ∷ ds)) (2 ^ 32)) [
  | inl small ↦ let this = cond-true _ (Is (digits_value 10 (d ∷ ds)) e) (TooLarge e) (lt-ltb _ _ small) in (small, (cc), (cc))
  | inr large ↦ let this = cond-false _ (Is (digits_value 10 (d ∷ ds)) e) (TooLarge e) (le-ltb _ _ large) in absurd (cc)
]

of_TooLarge : (ds : List ℕ) (e end : ℕ) → numeral_of ds e ≡ TooLarge end → (2 ^ 32 ≤ digits_value 10 ds) × (e ≡ end)
of_TooLarge [] e end is = absurd (cc)
of_TooLarge (d ∷ ds) e end is = elim (cases_lt (digits_value 10 (d ∷ ds)) (2 ^ 32)) [
  | inl small ↦ let this = cond-true _ (Is (digits_value 10 (d ∷ ds)) e) (TooLarge e) (lt-ltb _ _ small) in absurd (cc)
  | inr large ↦ let this = cond-false _ (Is (digits_value 10 (d ∷ ds)) e) (TooLarge e) (le-ltb _ _ large) in (large, (cc))
]

of_NoDigits : (ds : List ℕ) (e : ℕ) → numeral_of ds e ≡ NoDigits → length ds ≡ 0
of_NoDigits [] e is = refl
of_NoDigits (d ∷ ds) e is = elim (cases_lt (digits_value 10 (d ∷ ds)) (2 ^ 32)) [
  | inl small ↦ let this = cond-true _ (Is (digits_value 10 (d ∷ ds)) e) (TooLarge e) (lt-ltb _ _ small) in absurd (cc)
  | inr large ↦ let this = cond-false _ (Is (digits_value 10 (d ∷ ds)) e) (TooLarge e) (le-ltb _ _ large) in absurd (cc)
]

-- a field of digits alone, whose value has 32 bits or not
pub record IsNumber (f : List ℕ) (fits : Bool) : Type 0 where
  pub digits : list_all is_ascii_digit f ≡ true
  pub size : ltb (digits_value 10 f) (2 ^ 32) ≡ fits

module _ (f : List ℕ) where
  length-run : length (digits_at f 0) ≡ prefix_len is_ascii_digit f
  length-run = length-prefix_len is_ascii_digit f

  run-whole : prefix_len is_ascii_digit f ≡ length f → digits_at f 0 ≡ f
  run-whole is = take_all (prefix_len is_ascii_digit f) f (omega arith)

  run-part : prefix_len is_ascii_digit f ≢ length f → list_all is_ascii_digit f ≡ false
  run-part ne = elim (cases_Bool (list_all is_ascii_digit f)) [
    | inl all ↦ absurd (ne (prefix-from_all is_ascii_digit f all))
    | inr some ↦ some
  ]

  -- a numeral that is the whole field
  pub number-whole : (value end : ℕ) → numeral_at f 0 ≡ Is value end → end ≡ length f → IsNumber f true × (digits_value 10 f ≡ value)
  number-whole value end is whole =
      let says = of_Is (digits_at f 0) (0 + length (digits_at f 0)) value end is in
      let all : prefix_len is_ascii_digit f ≡ length f = omega (arith, length-run, says.2, whole) in
      let small : digits_value 10 f < 2 ^ 32 = subst (λ (ds : List ℕ). digits_value 10 ds < 2 ^ 32) (run-whole all) says.0 in
      (record { digits = all-from_prefix is_ascii_digit f all; size = lt-ltb _ _ small }, sym (ap (digits_value 10) (run-whole all)) ∙ says.1)

  pub large-whole : (end : ℕ) → numeral_at f 0 ≡ TooLarge end → end ≡ length f → IsNumber f false
  large-whole end is whole =
      let says = of_TooLarge (digits_at f 0) (0 + length (digits_at f 0)) end is in
      let all : prefix_len is_ascii_digit f ≡ length f = omega (arith, length-run, says.1, whole) in
      let above : 2 ^ 32 ≤ digits_value 10 f = subst (λ (ds : List ℕ). 2 ^ 32 ≤ digits_value 10 ds) (run-whole all) says.0 in
      record { digits = all-from_prefix is_ascii_digit f all; size = le-ltb _ _ above }

  -- a field with more in it than its numeral
  pub number-part : (value end : ℕ) → numeral_at f 0 ≡ Is value end → end ≢ length f → list_all is_ascii_digit f ≡ false
  number-part value end is ne = let says = of_Is (digits_at f 0) (0 + length (digits_at f 0)) value end is in run-part (λ all. ne (omega (arith, length-run, says.2)))

  pub large-part : (end : ℕ) → numeral_at f 0 ≡ TooLarge end → end ≢ length f → list_all is_ascii_digit f ≡ false
  large-part end is ne = let says = of_TooLarge (digits_at f 0) (0 + length (digits_at f 0)) end is in run-part (λ all. ne (omega (arith, length-run, says.1)))

  pub no-digits : numeral_at f 0 ≡ NoDigits → 0 < length f → list_all is_ascii_digit f ≡ false
  no-digits is more = let says = of_NoDigits (digits_at f 0) (0 + length (digits_at f 0)) is in run-part (λ all. omega (arith, length-run, says))
