-- A list up to one of its items, and behind it.
use Rattle.std.proofs.Common.{◌≡◌, ℕ, ◌+◌, ◌<◌, List, [], ◌∷◌, ◌++◌, length, take, drop, get_or, ap, ◌∙◌, arith, length-drop}
use Rattle.std.proofs.lemmas.List.{take_more, drop_more}

module _ {X : Type 0} (xs : List X) (k : ℕ) (x : X) (more : List X) (left : x ∷ more ≡ drop k xs) where
  pub item-below : k < length xs
  item-below = omega (arith, ap length left, length-drop k xs)

  pub get_or-item : (d : X) → get_or xs k d ≡ x
  get_or-item d = let split = drop_more xs k d item-below in cc

  pub drop-item : more ≡ drop (k + 1) xs
  drop-item = let split = drop_more xs k x item-below in cc

  pub take-item : take (k + 1) xs ≡ take k xs ++ x ∷ []
  take-item = take_more xs k x item-below ∙ ap (λ (y : X). take k xs ++ y ∷ []) (get_or-item x)
