-- The keys of a list, and what a search among them and a change of the list leave.
use Rattle.std.proofs.Common.{◌≡◌, ◌∙◌, ◌<◌, ℕ, zero, suc, List, [], ◌∷◌, length, get_or, set, map, ltb, refl, ap, sym}
use Rattle.std.specs.List.{insert, prefix_len}
use Rattle.std.proofs.lemmas.List.{map-set, set-get_or, get_or-map}

module _ {X : Type 0} (key : X → ℕ) where
  pub prefix_len-map : (v : ℕ) (xs : List X) → prefix_len (λ (n : ℕ). ltb n v) (map key xs) ≡ prefix_len (λ (x : X). ltb (key x) v) xs
  prefix_len-map v [] = refl
  prefix_len-map v (x ∷ xs) = rw (prefix_len-map v xs) refl

module _ {X Y : Type 0} (key : X → Y) where
  pub map-insert : (xs : List X) (i : ℕ) (y : X) → map key (insert xs i y) ≡ insert (map key xs) i (key y)
  map-insert [] zero y = refl
  map-insert [] (suc i) y = refl
  map-insert (x ∷ xs) zero y = refl
  map-insert (x ∷ xs) (suc i) y = ap (λ l. key x ∷ l) (map-insert xs i y)

  -- an element with the key of the one in its place
  pub map-set_same : (xs : List X) (i : ℕ) (y d : X) → i < length xs → key y ≡ key (get_or xs i d) → map key (set xs i y) ≡ map key xs
  map-set_same xs i y d l e = map-set key xs i y ∙ ap (set (map key xs) i) (e ∙ sym (get_or-map key xs i d (key d) l)) ∙ set-get_or (map key xs) i (key d)

  -- a change that keeps each key
  pub map-map_same : (f : X → X) → ((x : X) → key (f x) ≡ key x) → (xs : List X) → map key (map f xs) ≡ map key xs
  map-map_same f same [] = refl
  map-map_same f same (x ∷ xs) = rw (same x, map-map_same f same xs) refl
