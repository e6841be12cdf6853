-- Where the ends of edges stand among the vertices.
use Rattle.std.proofs.Common.{◌≡◌, ◌∙◌, ◌<◌, ◌+◌, ◌||◌, ℕ, Bool, true, eqb, List, [], ◌∷◌, ◌++◌, length, take, get_or, map, refl, ap, sym, arith, inl, inr}
use Rattle.std.specs.Prelude.{slice_index}
use Rattle.std.specs.List.{All, filter, list_any}
use Rattle.std.proofs.lemmas.Bool.{cases_order, cases_Bool, eq-eqb, ne_eqb, eqb-true}
use Rattle.std.proofs.lemmas.List.{take_more, map-append, get_or_default}
use Rattle.std.proofs.lemmas.List.Elements.{All-cons, All-nil, All-head, All-tail}
use Rattle.std.proofs.lemmas.List.Folds.{Any-from_list_any}
use Rattle.gr_base.specs.Rising.{RisesBy, has}
use Rattle.gr_uncut.specs.Rows.{items_of}

pub list_any-map : {X Y : Type 0} (f : X → Y) (p : Y → Bool) (xs : List X) → list_any p (map f xs) ≡ list_any (λ x. p (f x)) xs
list_any-map f p [] = refl
list_any-map f p (x ∷ xs) = ap (λ b. p (f x) || b) (list_any-map f p xs)

-- positions of a rising list are told apart by what stands there
pub same-position : (vs : List ℕ) (j k : ℕ) → RisesBy (λ (n : ℕ). n) vs → j < length vs → k < length vs → eqb (slice_index vs j) (slice_index vs k) ≡ eqb j k
same-position vs j k rise lj lk = elim (cases_order j k) [
  | inl same ↦ eq-eqb _ _ (ap (slice_index vs) same) ∙ sym (eq-eqb j k same)
  | inr o ↦ elim o [
    | inl lt ↦ let q = rise j k 0 lt lk in ne_eqb _ _ (λ e. omega arith) ∙ sym (ne_eqb j k (λ e. omega arith))
    | inr gt ↦ let q = rise k j 0 gt lj in ne_eqb _ _ (λ e. omega arith) ∙ sym (ne_eqb j k (λ e. omega arith))
  ]
]

-- a number of a list stands at a position
pub place-of : (ks : List ℕ) (v : ℕ) → has ks v ≡ true → (k : ℕ) × (k < length ks) × (slice_index ks k ≡ v)
place-of ks v on =
    let some = Any-from_list_any (λ x. eqb x v) ks on in
    (some.0, some.2, get_or_default ks some.0 0 some.1 some.2 ∙ some.3 ∙ eqb-true some.1 v some.4)

-- one element more, on both sides
pub maps-more : {X Y Z : Type 0} (f : X → Z) (g : Y → Z) (xs : List X) (ys : List Y) (i : ℕ) (x : X) (d : Y) → i < length ys → map f xs ≡ map g (take i ys) → f x ≡ g (get_or ys i d) → map f (xs ++ x ∷ []) ≡ map g (take (i + 1) ys)
maps-more f g xs ys i x d lt was here =
    map-append f xs (x ∷ [])
    ∙ ap (λ l. l ++ f x ∷ []) was
    ∙ ap (λ z. map g (take i ys) ++ z ∷ []) here
    ∙ sym (map-append g (take i ys) (get_or ys i d ∷ []))
    ∙ sym (ap (map g) (take_more ys i d lt))

-- equal lists have equal heads and tails
pub head : {B : Type 0} {b c : B} {bs cs : List B} → b ∷ bs ≡ c ∷ cs → b ≡ c
head q = cc

pub tail : {B : Type 0} {b c : B} {bs cs : List B} → b ∷ bs ≡ c ∷ cs → bs ≡ cs
tail q = cc

-- the items of a key are those of what they tell
pub items_of-told : {X Y Z : Type 0} (name : X → Z) (at : ℕ → ℕ) (told : Y → Z) (key : Y → ℕ) (keys : List ℕ) (xs : List X) (ys : List Y) (k : ℕ)
    → map at keys ≡ map key ys → map name xs ≡ map told ys → All (λ j. eqb (at j) (at k) ≡ eqb j k) keys
    → map name (items_of keys xs k) ≡ map told (filter (λ y. eqb (key y) (at k)) ys)
items_of-told name at told key [] xs [] k same all apart = refl
items_of-told name at told key [] xs (y ∷ ys) k same all apart = cc
items_of-told name at told key (j ∷ keys) [] [] k same all apart = cc
items_of-told name at told key (j ∷ keys) [] (y ∷ ys) k same all apart = cc
items_of-told name at told key (j ∷ keys) (x ∷ xs) [] k same all apart = cc
items_of-told name at told key (j ∷ keys) (x ∷ xs) (y ∷ ys) k same all apart =
    let rest = items_of-told name at told key keys xs ys k (tail same) (tail all) (All-tail (λ j. eqb (at j) (at k) ≡ eqb j k) j keys apart) in
    let test : eqb (key y) (at k) ≡ eqb j k = ap (λ n. eqb n (at k)) (sym (head same)) ∙ All-head (λ j. eqb (at j) (at k) ≡ eqb j k) j keys apart in
    elim (cases_Bool (eqb j k)) [
      | inl on ↦ let on' = test ∙ on in rw (on, on') (ap (λ z. z ∷ map name (items_of keys xs k)) (head all) ∙ ap (λ l. told y ∷ l) rest)
      | inr off ↦ let off' = test ∙ off in rw (off, off') rest
    ]

-- what holds of all items holds of the items of a key
pub items_of-all : {X : Type 0} (P : X → Type 0) (keys : List ℕ) (xs : List X) (k : ℕ) → All P xs → All P (items_of keys xs k)
items_of-all P [] xs k all = All-nil P
items_of-all P (j ∷ keys) [] k all = All-nil P
items_of-all P (j ∷ keys) (x ∷ xs) k all =
    let rest = items_of-all P keys xs k (All-tail P x xs all) in
    elim (cases_Bool (eqb j k)) [
      | inl on ↦ rw on (All-cons P x (items_of keys xs k) (All-head P x xs all) rest)
      | inr off ↦ rw off rest
    ]
