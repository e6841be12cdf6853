-- The number of a word, by the numeral that stands at its front.
use Rattle.std.proofs.Common.{◌≡◌, ◌<◌, ◌^◌, ℕ, Bool, true, false, cond, ◌&&◌, eqb, leb, ltb, List, [], ◌∷◌, length, Some, None, refl, sym, ap, ◌∙◌, arith, inl, inr, eqb-true, lt-ltb, ltb-false}
use Rattle.std.specs.List.{list_all}
use Rattle.std.specs.Char.{is_ascii_digit}
use Rattle.std.specs.Str.Parse.{digits_value}
use Rattle.std.proofs.lemmas.Bool.{and_left, and_parts, and_right, cases_eq, eq-eqb, lt-leb}
use Rattle.gr_base.specs.declared.numbers.Numeral.TheVariants.{NoDigits, TooLarge, Is}
use Rattle.gr_base.specs.Numeral.{numeral_at}
use Rattle.gr_lists.proofs.Tests.{by_test}
use Rattle.gr_text.proofs.Digits.{number-whole, number-part, large-whole, large-part, no-digits}
use Rattle.imitate.specs.Words.{number_in}

-- a choice by four tests: that a word is not empty, that it is of digits, and that its value is within two bounds
taken : (a b l m : Bool) (n value : ℕ) → a ≡ true → b ≡ true → l ≡ true → m ≡ true → n ≡ value → Some value ≡ cond (a && (b && (l && m))) (Some n) None
taken true true true true n value a b l m e = ap Some (sym e)
taken false b l m n value e _ _ _ _ = absurd (cc)
taken true false l m n value _ e _ _ _ = absurd (cc)
taken true true false m n value _ _ e _ _ = absurd (cc)
taken true true true false n value _ _ _ e _ = absurd (cc)

left-out : (a k : Bool) (n : ℕ) → k ≡ false → None ≡ cond (a && k) (Some n) None
left-out true k n e = rw e refl
left-out false k n e = refl

some-word : (f : List ℕ) (value end : ℕ) → numeral_at f 0 ≡ Is value end → ltb 0 (length f) ≡ true
some-word [] value end is = absurd (cc)
some-word (x ∷ xs) value end is = lt-ltb 0 (length (x ∷ xs)) (omega arith)

module _ (least most : ℕ) (f : List ℕ) where
  abbrev n : ℕ
  n = digits_value 10 f

  pub number-taken : (value end : ℕ) → numeral_at f 0 ≡ Is value end → ((eqb end (length f) && leb least value) && leb value most) ≡ true → Some value ≡ number_in least most f
  number-taken value end is t =
      let outer = and_parts (eqb end (length f) && leb least value) (leb value most) t in
      let inner = and_parts (eqb end (length f)) (leb least value) outer.0 in
      let says = number-whole f value end is (eqb-true end (length f) inner.0) in
      taken (ltb 0 (length f)) (list_all is_ascii_digit f) (leb least n) (leb n most) n value (some-word f value end is) says.0.digits
      (ap (leb least) says.1 ∙ inner.1) (ap (λ k. leb k most) says.1 ∙ outer.1) says.1

  pub number-left : (value end : ℕ) → numeral_at f 0 ≡ Is value end → ((eqb end (length f) && leb least value) && leb value most) ≡ false → None ≡ number_in least most f
  number-left value end is e = by_test (eqb end (length f))
      (λ whole.
      let says = number-whole f value end is (eqb-true end (length f) whole) in
      let out : (leb least value && leb value most) ≡ false = rw whole at e in
      let here : (leb least n && leb n most) ≡ false = ap (λ k. leb least k && leb k most) says.1 ∙ out in
      left-out (ltb 0 (length f)) _ n (and_right (list_all is_ascii_digit f) _ here))
      (λ part. left-out (ltb 0 (length f)) _ n (and_left (list_all is_ascii_digit f) _ (number-part f value end is (λ same. let bad : true ≡ false = sym (eq-eqb end (length f) same) ∙ part in cc))))

  pub number-large : most < 2 ^ 32 → (end : ℕ) → numeral_at f 0 ≡ TooLarge end → None ≡ number_in least most f
  number-large small end is = elim (cases_eq end (length f)) [
    | inl whole ↦
        let above = large-whole f end is whole in
        let big = ltb-false n (2 ^ 32) above.size in
        let out : leb n most ≡ false = lt-leb n most (omega (arith, big, small)) in
        left-out (ltb 0 (length f)) _ n (and_right (list_all is_ascii_digit f) _ (and_right (leb least n) (leb n most) out))
    | inr part ↦ left-out (ltb 0 (length f)) _ n (and_left (list_all is_ascii_digit f) _ (large-part f end is part))
  ]

pub number-none : (least most : ℕ) (f : List ℕ) → numeral_at f 0 ≡ NoDigits → None ≡ number_in least most f
number-none least most [] is = refl
number-none least most (x ∷ xs) is =
    let f : List ℕ = x ∷ xs in
    left-out (ltb 0 (length f)) _ (digits_value 10 f) (and_left (list_all is_ascii_digit f) _ (no-digits f is (omega arith)))
