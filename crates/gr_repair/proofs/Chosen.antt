-- A selection of elements, as a loop makes it.
use Rattle.std.proofs.Common.{◌≡◌, ◌∙◌, ◌<◌, ◌+◌, ℕ, Bool, true, false, cond, List, [], ◌∷◌, ◌++◌, map, take, length, get_or, ap}
use Rattle.std.specs.List.{filter}
use Rattle.std.proofs.lemmas.List.{map-append, append-nil}
use Rattle.std.proofs.lemmas.List.Elements.{filter_more}

module _ {X Y : Type 0} (f : X → Y) (t : X → Bool) (xs : List X) (i : ℕ) (d : X) where
  chosen-more : (b : Bool) → i < length xs → t (get_or xs i d) ≡ b → map f (filter t (take (i + 1) xs)) ≡ map f (filter t (take i xs)) ++ map f (cond b (get_or xs i d ∷ []) [])
  chosen-more b lt e =
      ap (map f) (filter_more t xs i d lt) ∙ map-append f (filter t (take i xs)) (cond (t (get_or xs i d)) (get_or xs i d ∷ []) [])
      ∙ ap (λ c. map f (filter t (take i xs)) ++ map f (cond c (get_or xs i d ∷ []) [])) e

  pub chosen-yes : i < length xs → t (get_or xs i d) ≡ true → map f (filter t (take (i + 1) xs)) ≡ map f (filter t (take i xs)) ++ f (get_or xs i d) ∷ []
  chosen-yes lt e = chosen-more true lt e

  pub chosen-no : i < length xs → t (get_or xs i d) ≡ false → map f (filter t (take (i + 1) xs)) ≡ map f (filter t (take i xs))
  chosen-no lt e = chosen-more false lt e ∙ append-nil (map f (filter t (take i xs)))
