-- The lines of a text, from its front, and what each says.
use Rattle.std.proofs.Common.{◌≡◌, ℕ, ◌+◌, ◌-◌, ◌<◌, ◌≤◌, false, List, [], ◌∷◌, ◌++◌, length, take, drop, map, refl, sym, ap, ◌∙◌, inl, inr, arith, length-drop}
use Rattle.std.specs.List.{All, slice_split, position_or_len}
use Rattle.std.proofs.lemmas.Bool.{cases_lt}
use Rattle.std.proofs.lemmas.List.{take_all, take_rest}
use Rattle.std.proofs.lemmas.List.Splits.{slice_split_none, slice_split_first, slice_split_at}
use Rattle.std.proofs.lemmas.List.Sums.{fails_before_first}
use Rattle.std.proofs.lemmas.List.Elements.{All-from_get_or}
use Rattle.gr_text.specs.Lines.{is_line_end}

module _ {X : Type 0} (line_of : List ℕ → X) where
  abbrev lines_of : List ℕ → List X
  lines_of text = map line_of (slice_split is_line_end text)

  module _ (text : List ℕ) (n : ℕ) (n_is : n ≡ position_or_len is_line_end text) where
    -- a line that has an end
    pub line-first : n < length text → lines_of text ≡ line_of (take n text) ∷ lines_of (take (length text - (n + 1)) (drop (n + 1) text))
    line-first below =
        let split : slice_split is_line_end text ≡ take n text ∷ slice_split is_line_end (drop (n + 1) text) = rw n_is (slice_split_first is_line_end text 0 (omega (arith, n_is))) in
        ap (map line_of) split ∙ ap (λ (r : List ℕ). line_of (take n text) ∷ lines_of r) (sym (take_rest text (n + 1)))

    -- the last line
    pub line-last : n ≡ length text → lines_of text ≡ line_of (take n text) ∷ []
    line-last whole =
        let all : slice_split is_line_end text ≡ text ∷ [] = slice_split_none is_line_end text (All-from_get_or (λ b. is_line_end b ≡ false) text 0 (λ i lt. fails_before_first is_line_end text i 0 (omega (arith, n_is, whole)))) in
        ap (map line_of) all ∙ ap (λ (l : List ℕ). let one : List X = line_of l ∷ [] in one) (sym (take_all n text (omega (arith, whole))))

    -- every text has a first line
    pub line-there : n ≤ length text → (more : List X) × (lines_of text ≡ line_of (take n text) ∷ more)
    line-there within = elim (cases_lt n (length text)) [
      | inl below ↦ (lines_of (take (length text - (n + 1)) (drop (n + 1) text)), line-first below)
      | inr past ↦ ([], line-last (omega arith))
    ]

  -- a line with no line end in it, before others
  pub line-before : (line rest : List ℕ) → All (λ b. is_line_end b ≡ false) line → lines_of (line ++ 10 ∷ rest) ≡ line_of line ∷ lines_of rest
  line-before line rest plain = ap (map line_of) (slice_split_at is_line_end line 10 rest plain refl)

pub rest-shorter : (line n : ℕ) (text : List ℕ) (all : ℕ) → n < length text → line + length text ≤ all → line + 1 + length (take (length text - (n + 1)) (drop (n + 1) text)) ≤ all
rest-shorter line n text all below short = omega (arith, ap length (take_rest text (n + 1)), length-drop (n + 1) text)
