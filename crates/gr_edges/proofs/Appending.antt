-- Lines appended one after another.
use Rattle.std.proofs.Common.{◌≡◌, ℕ, ◌+◌, ◌<◌, ◌≤◌, List, ◌++◌, length, take, drop, get_or, sym, ap, ◌∙◌, inl, inr, arith, length-append}
use Rattle.std.specs.List.{flat_map}
use Rattle.std.proofs.lemmas.List.{take_more, take_all, flat_map_more, take-append-le, take-append-drop, length-take}
use Rattle.std.proofs.lemmas.Bool.{cases_lt}
use Rattle.std.proofs.Math.Seq.{take-append_seam}
use Rattle.gr_edges.specs.Text.{IsFront}

module _ {X : Type 0} (line : X → List ℕ) where
  pub lines-more : (old now new : List ℕ) (xs : List X) (i : ℕ) (d : X) → i < length xs → now ≡ old ++ flat_map line (take i xs) → new ≡ now ++ line (get_or xs i d) → new ≡ old ++ flat_map line (take (i + 1) xs)
  lines-more old now new xs i d lt so_far is =
      is ∙ ap (λ (l : List ℕ). l ++ line (get_or xs i d)) so_far ∙ flat_map_more line old (take i xs) (get_or xs i d)
      ∙ ap (λ (ys : List X). old ++ flat_map line ys) (sym (take_more xs i d lt))

-- a front of a front
pub front-front : (old more now new : List ℕ) → now ≡ old ++ more → IsFront now new → IsFront old new
front-front old more now new is front =
    sym (take-within (length old) (length now) new (omega (arith, ap length is, length-append old more)))
    ∙ ap (take (length old)) (front ∙ is) ∙ take-append_seam old more
  where
    take-within : (i j : ℕ) (xs : List ℕ) → i ≤ j → take i (take j xs) ≡ take i xs
    take-within i j xs le = elim (cases_lt (length xs) j) [
      | inl past ↦ ap (take i) (take_all j xs (omega arith))
      | inr within ↦ sym (take-append-le i (take j xs) (drop j xs) (omega (arith, length-take j xs))) ∙ ap (take i) (take-append-drop j xs)
    ]
