-- Lists that are told item by item.
use Rattle.std.proofs.Common.{◌≡◌, ◌∙◌, ◌+◌, ◌<◌, ℕ, suc, true, false, eqb, List, [], ◌∷◌, ◌++◌, All, length, take, Some, refl, sym, ap, append_assoc, arith}
use Rattle.std.specs.Prelude.{slice_get}
use Rattle.std.specs.List.{flat_map}
use Rattle.std.proofs.lemmas.List.{take_more}
use Rattle.std.proofs.lemmas.List.Concat.{flat_map-cons}
use Rattle.std.proofs.lemmas.List.Elements.{All-cons, All-append}
use Rattle.gr_base.specs.Rising.{RisesBy}
use Rattle.gr_base.proofs.Rising.{rises-head, rises-tail, rises-cons, rises-nil}
use Rattle.std.proofs.lemmas.Option.{slice_get_within, get_or_from_slice_get}

-- one number more of a list
pub appended-next : {X : Type 0} (old xs now : List X) (i : ℕ) (x : X) → now ≡ old ++ take i xs → slice_get xs i ≡ Some x → now ++ x ∷ [] ≡ old ++ take (i + 1) xs
appended-next old xs now i x so_far here =
    let last : take (i + 1) xs ≡ take i xs ++ x ∷ [] = take_more xs i x (slice_get_within xs i x here) ∙ ap (λ y. take i xs ++ y ∷ []) (get_or_from_slice_get xs i x x here) in
    ap (λ l. l ++ x ∷ []) so_far ∙ append_assoc old (take i xs) (x ∷ []) ∙ ap (λ l. old ++ l) (sym last)

-- numbers that tell themselves
pub flat_map-single : (xs : List ℕ) → flat_map (λ (v : ℕ). v ∷ []) xs ≡ xs
flat_map-single [] = refl
flat_map-single (x ∷ xs) = flat_map-cons (λ (v : ℕ). v ∷ []) x xs ∙ ap (λ (l : List ℕ). x ∷ l) (flat_map-single xs)

-- a list that rises, and one more element above all
pub rises-last : {X : Type 0} (key : X → ℕ) (xs : List X) (y : X) → RisesBy key xs → All (λ x. key x < key y) xs → RisesBy key (xs ++ y ∷ [])
rises-last key [] y r low = rises-cons key y [] (λ i d l. absurd (omega arith)) (rises-nil key)
rises-last key (x ∷ xs) y r low =
    let later = rises-head key x xs r in
    rises-cons key x (xs ++ y ∷ [])
    (All-append (λ z. key x < key z) xs (y ∷ []) later (All-cons (λ z. key x < key z) y [] (low 0 x (omega arith)) (λ i d l. absurd (omega arith))))
    (rises-last key xs y (rises-tail key x xs r) (λ i d l. low (suc i) d (omega arith)))

-- a list that has elements is not empty
pub some-left : {X : Type 0} (xs : List X) → false ≡ eqb (length xs) 0 → xs ≡ [] → ⊥
some-left xs some none =
    let zero-long : eqb (length xs) 0 ≡ true = ap (λ (l : List _). eqb (length l) 0) none in
    cc
