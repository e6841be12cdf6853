-- The digits that a text begins with.
use Rattle.std.proofs.Common.{◌≡◌, ℕ, ◌+◌, ◌*◌, ◌-◌, ◌^◌, ◌<◌, ◌≤◌, true, false, List, length, take, get_or, refl, sym, ap, ◌∙◌, subst, arith, inl, inr, length-take}
use Rattle.std.specs.List.{list_all, position_or_len}
use Rattle.std.specs.Char.{is_ascii_digit, IsAsciiDigit}
use Rattle.std.specs.Str.Parse.{digits_value}
use Rattle.std.proofs.lemmas.Bool.{cases_eq, ne_eqb, le-leb}
use Rattle.std.proofs.lemmas.Int.Digits.{digits_value_more}
use Rattle.std.proofs.lemmas.List.{get_or-take}
use Rattle.std.proofs.lemmas.List.Elements.{All-from_get_or}
use Rattle.std.proofs.lemmas.List.Sums.{position_or_len_is, list_all-from_AllPass}
use Rattle.gr_base.proofs.Numerals.{value-digit}
use Rattle.gr_text.specs.Fields.{is_blank}
use Rattle.gr_edges.specs.declared.field.FieldFound.{FieldFound}
use Rattle.gr_edges.specs.Fields.{field_found}
use Rattle.gr_edges.proofs.Numbers.{field-plain}

digit-no_blank : (b : ℕ) → 48 ≤ b → b ≤ 57 → is_blank b ≡ false
digit-no_blank b low high = rw (ne_eqb b 32 (λ e. omega arith), ne_eqb b 9 (λ e. omega arith)) refl

digit-passes : (b : ℕ) → 48 ≤ b → b ≤ 57 → is_ascii_digit b ≡ true
digit-passes b low high = rw (le-leb 48 b low, le-leb b 57 high) refl

module _ (text : List ℕ) (i : ℕ) (within : i ≤ length text) (digits : (k : ℕ) → k < i → IsAsciiDigit (get_or text k 0)) where
  -- a blank or the end follows
  pub leading-len : (i < length text → is_blank (get_or text i 0) ≡ true) → i ≡ position_or_len is_blank text
  leading-len blank = sym (position_or_len_is is_blank text i 0 within (λ k lt. let d = digits k lt in digit-no_blank (get_or text k 0) d.0 d.1) blank)

  leading-digits : list_all is_ascii_digit (take i text) ≡ true
  leading-digits = list_all-from_AllPass is_ascii_digit (take i text) (All-from_get_or (λ b. is_ascii_digit b ≡ true) (take i text) 0 (λ k lt.
      let below : k < i = omega (arith, length-take i text) in
      let d = digits k below in
      ap is_ascii_digit (get_or-take i text k 0 below) ∙ digit-passes (get_or text k 0) d.0 d.1))

  pub leading-number : (value : ℕ) → digits_value 10 (take i text) ≡ value → value < 2 ^ 32 → (let it : FieldFound = record { number = value; is_large = false; is_bad = false } in it) ≡ field_found (take i text)
  leading-number value is small = field-plain (take i text) value leading-digits is small

  -- a digit more
  pub digits-after : IsAsciiDigit (get_or text i 0) → (k : ℕ) → k < i + 1 → IsAsciiDigit (get_or text k 0)
  digits-after here k lt = elim (cases_eq k i) [
    | inl last ↦ subst (λ (j : ℕ). IsAsciiDigit (get_or text j 0)) (sym last) here
    | inr earlier ↦ digits k (omega arith)
  ]

  pub value-after : (value : ℕ) → digits_value 10 (take i text) ≡ value → i < length text → IsAsciiDigit (get_or text i 0) → digits_value 10 (take (i + 1) text) ≡ value * 10 + (get_or text i 0 - 48)
  value-after value is lt here =
      let more = digits_value_more 10 text i lt in
      let digit = value-digit (get_or text i 0) here.0 here.1 in
      omega (arith, more, digit, is)
