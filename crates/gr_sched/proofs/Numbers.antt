-- The number of a field, by the numeral that stands at its front; and of a number's digits.
use Rattle.std.proofs.Common.{◌≡◌, ◌≢◌, ℕ, suc, ◌^◌, ◌<◌, Bool, true, false, cond, List, [], ◌∷◌, length, map, Option, Some, None, refl, sym, ap, ◌∙◌, inl, inr, arith}
use Rattle.std.specs.Prelude.{◌&&◌}
use Rattle.std.specs.List.{All, list_all}
use Rattle.std.specs.Char.{is_ascii_digit}
use Rattle.std.specs.Fmt.{decimal}
use Rattle.std.specs.Str.Parse.{digits_value}
use Rattle.std.proofs.lemmas.Bool.{cases_eq}
use Rattle.gr_base.specs.declared.numbers.Numeral.TheVariants.{NoDigits, TooLarge, Is}
use Rattle.gr_base.specs.Numeral.{numeral_at}
use Rattle.gr_text.proofs.Digits.{IsNumber, number-whole, number-part, large-whole, large-part, no-digits}
use Rattle.gr_text.proofs.Spaced.{number-decimal, digits_value-decimal}
use Rattle.gr_sched.specs.Fields.{number_of, with_number, all_numbers}

-- what a test of the digits, and one of their value, leave of the number
number-if : (all fits : Bool) (value : ℕ) → all ≡ true → fits ≡ true → Some value ≡ cond (all && fits) (Some value) None
number-if all fits value a b = rw (a, b) refl

none-if : (all fits : Bool) (value : ℕ) → all ≡ false → None ≡ cond (all && fits) (Some value) None
none-if all fits value a = rw a refl

large-if : (all fits : Bool) (value : ℕ) → all ≡ true → fits ≡ false → None ≡ cond (all && fits) (Some value) None
large-if all fits value a b = rw (a, b) refl

number_of-number : (f : List ℕ) (value : ℕ) → IsNumber f true → digits_value 10 f ≡ value → Some value ≡ number_of f
number_of-number f value is says = ap (λ (v : ℕ). let one : Option ℕ = Some v in one) (sym says) ∙ number-if _ _ (digits_value 10 f) is.digits is.size

module _ (f : List ℕ) where
  number_of-other : list_all is_ascii_digit f ≡ false → None ≡ number_of f
  number_of-other other = none-if _ _ (digits_value 10 f) other

  pub number_of-whole : (value end : ℕ) → numeral_at f 0 ≡ Is value end → end ≡ length f → Some value ≡ number_of f
  number_of-whole value end is whole = let says = number-whole f value end is whole in number_of-number f value says.0 says.1

  pub number_of-part : (value end : ℕ) → numeral_at f 0 ≡ Is value end → end ≢ length f → None ≡ number_of f
  number_of-part value end is ne = number_of-other (number-part f value end is ne)

  pub number_of-bad : numeral_at f 0 ≡ NoDigits → 0 < length f → None ≡ number_of f
  number_of-bad is more = number_of-other (no-digits f is more)

  pub number_of-large : (end : ℕ) → numeral_at f 0 ≡ TooLarge end → None ≡ number_of f
  number_of-large end is = elim (cases_eq end (length f)) [
    | inl whole ↦ let above = large-whole f end is whole in large-if _ _ (digits_value 10 f) above.digits above.size
    | inr ne ↦ number_of-other (large-part f end is ne)
  ]

pub number_of-decimal : (n : ℕ) → n < 2 ^ 32 → number_of (decimal n) ≡ Some n
number_of-decimal n small = sym (number_of-number (decimal n) n (number-decimal n small) (digits_value-decimal n small))

pub all_numbers-decimal : (ns : List ℕ) → All (λ n. n < 2 ^ 32) ns → all_numbers (map decimal ns) ≡ Some ns
all_numbers-decimal [] small = refl
all_numbers-decimal (n ∷ ns) small = λ t. with_number (number_of-decimal n (small 0 n (omega arith)) t) (all_numbers-decimal ns (λ k d lt. small (suc k) d (omega arith)) t)
