-- Words with one blank between.
use Rattle.std.proofs.Common.{◌≡◌, ℕ, suc, ◌-◌, ◌^◌, ◌<◌, ◌≤◌, Bool, true, false, not, eqb, ltb, get_or, List, [], ◌∷◌, ◌++◌, length, map, refl, ap, ◌∙◌, arith, length-append}
use Rattle.std.specs.Prelude.{◌&&◌}
use Rattle.std.specs.List.{All, list_all, filter, slice_split}
use Rattle.std.specs.Char.{is_ascii_digit}
use Rattle.std.specs.Fmt.{decimal}
use Rattle.std.specs.Str.Parse.{digits_value, AllDigits}
use Rattle.std.proofs.lemmas.Bool.{cond-false, ne_eqb, lt-ltb, le-leb, and_parts, not-true}
use Rattle.std.proofs.lemmas.Str.Parse.{digit_at}
use Rattle.std.proofs.lemmas.List.Elements.{All-append, All-cons, All-from_get_or}
use Rattle.std.proofs.lemmas.List.Splits.{slice_split_none, slice_split_at}
use Rattle.std.proofs.lemmas.List.Sums.{list_all-from_AllPass}
use Rattle.std.proofs.lemmas.Fmt.{decimal_is_IsNumeral}
use Rattle.gr_text.specs.Fields.{is_blank, fields_of}
use Rattle.gr_text.specs.Lines.{is_line_end, without_return_of}
use Rattle.gr_text.proofs.Digits.{IsNumber}
use Rattle.gr_text.proofs.Lines.{line-before}
use Rattle.gr_text.proofs.Splitting.{filter-kept}

-- a byte of a line is no line end, and no carriage return
pub record IsPlain (b : ℕ) : Type 0 where
  pub no_end : is_line_end b ≡ false
  pub no_return : eqb b 13 ≡ false

-- a word: some bytes, none of them a blank or an end
pub record IsWord (w : List ℕ) : Type 0 where
  pub some : 0 < length w
  pub plain : All IsPlain w
  pub no_blank : All (λ b. is_blank b ≡ false) w

-- what a byte of a word is, as a test
abbrev is_ink : ℕ → Bool
is_ink b = not (is_blank b) && (not (is_line_end b) && not (eqb b 13))

each : (w : List ℕ) (P : ℕ → Type 0) → ((b : ℕ) → is_ink b ≡ true → P b) → list_all is_ink w ≡ true → All P w
each [] P f h = λ k d lt. absurd (omega arith)
each (b ∷ bs) P f h = let parts = and_parts (is_ink b) (list_all is_ink bs) h in All-cons P b bs (f b parts.0) (each bs P f parts.1)

-- a word by a test of its bytes
pub word-from_test : (w : List ℕ) → 0 < length w → list_all is_ink w ≡ true → IsWord w
word-from_test w some h = record {
  some = some;
  plain = each w IsPlain (λ b ink. let p = and_parts (not (is_blank b)) (not (is_line_end b) && not (eqb b 13)) ink in let q = and_parts (not (is_line_end b)) (not (eqb b 13)) p.1 in record { no_end = not-true (is_line_end b) q.0; no_return = not-true (eqb b 13) q.1 }) h;
  no_blank = each w (λ b. is_blank b ≡ false) (λ b ink. not-true (is_blank b) (and_parts (not (is_blank b)) (not (is_line_end b) && not (eqb b 13)) ink).0) h;
}

-- ---- the digits of a number

module _ (n : ℕ) (small : n < 2 ^ 32) where
  digits : AllDigits 10 (decimal n)
  digits = (decimal_is_IsNumeral n (omega arith)).0.1

  pub digits_value-decimal : digits_value 10 (decimal n) ≡ n
  digits_value-decimal = (decimal_is_IsNumeral n (omega arith)).1

  some : 0 < length (decimal n)
  some = (decimal_is_IsNumeral n (omega arith)).0.0

  pub each-decimal : (P : ℕ → Type 0) → ((b : ℕ) → 48 ≤ b → b ≤ 57 → P b) → All P (decimal n)
  each-decimal P f = All-from_get_or P (decimal n) 0 (λ i lt. let r = digit_at (decimal n) i digits lt in f (get_or (decimal n) i 0) (omega (arith, r.0)) (omega (arith, r.1)))

  pub word-decimal : IsWord (decimal n)
  word-decimal = record {
    some = some;
    plain = each-decimal IsPlain (λ b low high. record { no_end = ne_eqb b 10 (λ e. omega arith); no_return = ne_eqb b 13 (λ e. omega arith) });
    no_blank = each-decimal (λ b. is_blank b ≡ false) (λ b low high. rw (ne_eqb b 32 (λ e. omega arith), ne_eqb b 9 (λ e. omega arith)) refl);
  }

  pub number-decimal : IsNumber (decimal n) true
  number-decimal = record {
    digits = list_all-from_AllPass is_ascii_digit (decimal n) (each-decimal (λ b. is_ascii_digit b ≡ true) (λ b low high. rw (le-leb 48 b low, le-leb b 57 high) refl));
    size = lt-ltb _ _ (omega (arith, digits_value-decimal));
  }

pub words-decimal : (ns : List ℕ) → All (λ n. n < 2 ^ 32) ns → All IsWord (map decimal ns)
words-decimal [] small = λ k d lt. absurd (omega arith)
words-decimal (n ∷ ns) small = All-cons IsWord (decimal n) (map decimal ns) (word-decimal n (small 0 n (omega arith))) (words-decimal ns (λ k d lt. small (suc k) d (omega arith)))

-- ---- words one after another

abbrev pub spaced : List ℕ → List (List ℕ) → List ℕ
spaced w [] = w
spaced w (v ∷ vs) = w ++ 32 ∷ spaced v vs

pub fields-spaced : (w : List ℕ) (ws : List (List ℕ)) → IsWord w → All IsWord ws → fields_of (spaced w ws) ≡ w ∷ ws
fields-spaced w [] is rest = ap (filter (λ f. ltb 0 (length f))) (slice_split_none is_blank w is.no_blank) ∙ filter-kept w [] is.some
fields-spaced w (v ∷ vs) is rest =
    ap (filter (λ f. ltb 0 (length f))) (slice_split_at is_blank w 32 (spaced v vs) is.no_blank refl)
    ∙ filter-kept w (slice_split is_blank (spaced v vs)) is.some
    ∙ ap (λ (fs : List (List ℕ)). w ∷ fs) (fields-spaced v vs (rest 0 v (omega arith)) (λ k d lt. rest (suc k) d (omega arith)))

plain-spaced : (w : List ℕ) (ws : List (List ℕ)) → IsWord w → All IsWord ws → All IsPlain (spaced w ws)
plain-spaced w [] is rest = is.plain
plain-spaced w (v ∷ vs) is rest =
    let blank : IsPlain 32 = record { no_end = refl; no_return = refl } in
    All-append IsPlain w (32 ∷ spaced v vs) is.plain (All-cons IsPlain 32 (spaced v vs) blank (plain-spaced v vs (rest 0 v (omega arith)) (λ k d lt. rest (suc k) d (omega arith))))

some-spaced : (w : List ℕ) (ws : List (List ℕ)) → IsWord w → 0 < length (spaced w ws)
some-spaced w [] is = is.some
some-spaced w (v ∷ vs) is = omega (arith, is.some, length-append w (32 ∷ spaced v vs))

-- a line with no carriage return
no-return : (line : List ℕ) → 0 < length line → All IsPlain line → without_return_of line ≡ line
no-return line some plain = cond-false _ _ _ (plain (length line - 1) 0 (omega arith)).no_return

-- what a line of words reads as
pub words-read : (w : List ℕ) (ws : List (List ℕ)) → IsWord w → All IsWord ws → fields_of (without_return_of (spaced w ws)) ≡ w ∷ ws
words-read w ws is rest = ap fields_of (no-return (spaced w ws) (some-spaced w ws is) (plain-spaced w ws is rest)) ∙ fields-spaced w ws is rest

-- a line of words, before others
pub words-before : {X : Type 0} (line_of : List ℕ → X) (w : List ℕ) (ws : List (List ℕ)) (rest : List ℕ) → IsWord w → All IsWord ws
    → map line_of (slice_split is_line_end (spaced w ws ++ 10 ∷ rest)) ≡ line_of (spaced w ws) ∷ map line_of (slice_split is_line_end rest)
words-before line_of w ws rest is are = line-before line_of (spaced w ws) rest (λ k x lt. (plain-spaced w ws is are k x lt).no_end)
