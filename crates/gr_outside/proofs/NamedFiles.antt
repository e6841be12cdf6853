-- Files by their names.
use Rattle.std.proofs.Common.{◌≡◌, ℕ, zero, suc, ◌<◌, true, false, ltb, get_or, set, List, [], ◌∷◌, ◌++◌, length, Option, Some, None, if◌then◌else◌, refl, sym, ap, ◌∙◌, inl, inr, arith}
use Rattle.std.specs.List.{position, position_or_len}
use Rattle.std.proofs.lemmas.Bool.{cases_Bool, cond-true, cond-false, ltb-false}
use Rattle.std.proofs.lemmas.List.{get_or_read}
use Rattle.std.proofs.lemmas.List.Quantifiers.{position-Some}
use Rattle.std.proofs.lemmas.List.Sums.{fails_before_first}
use Rattle.std.specs.Prelude.{bytes_eq}
use Rattle.std.proofs.lemmas.Slice.Eq.{bytes_eq-Decides}
use Rattle.gr_outside.specs.Files.{Named, bytes_of, KeepsOthers}
use Rattle.gr_outside.specs.Memory.{is_named, with_file}

bytes_eq-same : (name : List ℕ) → bytes_eq name name ≡ true
bytes_eq-same name = (bytes_eq-Decides name name).1 refl

bytes_eq-other : (a b : List ℕ) → (a ≡ b → ⊥) → bytes_eq a b ≡ false
bytes_eq-other a b differs = elim (cases_Bool (bytes_eq a b)) [
  | inl same ↦ absurd (differs ((bytes_eq-Decides a b).0 same))
  | inr other ↦ other
]

-- no file before an index has the name
abbrev IsNoneBefore : List ℕ → List Named → ℕ → Type 0
IsNoneBefore name fs i = (k : ℕ) → k < i → is_named name (get_or fs k ([], [])) ≡ false

with_file-at : (fs : List Named) (name bytes : List ℕ) (i : ℕ) → i < length fs → is_named name (get_or fs i ([], [])) ≡ true → IsNoneBefore name fs i → with_file fs name bytes ≡ set fs i (name, bytes)
with_file-at [] name bytes i lt here before = absurd (omega arith)
with_file-at (f ∷ fs) name bytes zero lt here before = cond-true (is_named name f) _ _ here
with_file-at (f ∷ fs) name bytes (suc i) lt here before =
    cond-false (is_named name f) _ _ (before 0 (omega arith)) ∙ ap (λ (l : List Named). f ∷ l) (with_file-at fs name bytes i (omega arith) here (λ k below. before (suc k) (omega arith)))

bytes_of-at : (fs : List Named) (name : List ℕ) (i : ℕ) → i < length fs → is_named name (get_or fs i ([], [])) ≡ true → IsNoneBefore name fs i → bytes_of fs name ≡ Some (get_or fs i ([], [])).1
bytes_of-at [] name i lt here before = absurd (omega arith)
bytes_of-at (f ∷ fs) name zero lt here before = cond-true (is_named name f) _ _ here
bytes_of-at (f ∷ fs) name (suc i) lt here before =
    cond-false (is_named name f) _ _ (before 0 (omega arith)) ∙ bytes_of-at fs name i (omega arith) here (λ k below. before (suc k) (omega arith))

with_file-none : (fs : List Named) (name bytes : List ℕ) → IsNoneBefore name fs (length fs) → with_file fs name bytes ≡ fs ++ (name, bytes) ∷ []
with_file-none [] name bytes before = refl
with_file-none (f ∷ fs) name bytes before = cond-false (is_named name f) _ _ (before 0 (omega arith)) ∙ ap (λ (l : List Named). f ∷ l) (with_file-none fs name bytes (λ k below. before (suc k) (omega arith)))

bytes_of-none : (fs : List Named) (name : List ℕ) → IsNoneBefore name fs (length fs) → bytes_of fs name ≡ None
bytes_of-none [] name before = refl
bytes_of-none (f ∷ fs) name before = cond-false (is_named name f) _ _ (before 0 (omega arith)) ∙ bytes_of-none fs name (λ k below. before (suc k) (omega arith))

none_before : (fs : List Named) (name : List ℕ) → position (is_named name) fs ≡ None → IsNoneBefore name fs (length fs)
none_before fs name none = elim (cases_Bool (ltb (position_or_len (is_named name) fs) (length fs))) [
  | inl below ↦ absurd (let some = cond-true _ (Some (position_or_len (is_named name) fs)) None below in cc)
  | inr past ↦ λ k lt. fails_before_first (is_named name) fs k ([], []) (omega (arith, ltb-false _ _ past))
]

module _ (fs : List Named) (name : List ℕ) (i : ℕ) (found : position (is_named name) fs ≡ Some i) where
  first : (i < length fs) × (is_named name (get_or fs i ([], [])) ≡ true) × IsNoneBefore name fs i
  first = position-Some (is_named name) fs i ([], []) found

  pub found_within : i < length fs
  found_within = first.0

  pub bytes_of-found : bytes_of fs name ≡ Some (get_or fs i ([], [])).1
  bytes_of-found = bytes_of-at fs name i first.0 first.1 first.2

  pub name-found : (get_or fs i ([], [])).0 ≡ name
  name-found = (bytes_eq-Decides (get_or fs i ([], [])).0 name).0 first.1

  -- the file that was read there
  module _ (file : Named) (read : file ≡ get_or fs i file) where
    file_is : get_or fs i ([], []) ≡ file
    file_is = sym (get_or_read fs i file first.0 read ([], []))

    pub bytes_of-read : bytes_of fs name ≡ Some file.1
    bytes_of-read = bytes_of-found ∙ ap (λ (f : Named). Some f.1) file_is

    -- other bytes in its place
    pub with_file-read : (new : Named) (bytes : List ℕ) → new ≡ (file.0, bytes) → set fs i new ≡ with_file fs name bytes
    with_file-read new bytes is =
        let same : new ≡ (name, bytes) = is ∙ ap (λ (n : List ℕ). (n, bytes)) (ap (λ (f : Named). f.0) (sym file_is) ∙ name-found) in
        ap (λ (f : Named). set fs i f) same ∙ sym (with_file-at fs name bytes i first.0 first.1 first.2)

module _ (fs : List Named) (name : List ℕ) (absent : position (is_named name) fs ≡ None) where
  pub bytes_of-absent : bytes_of fs name ≡ None
  bytes_of-absent = bytes_of-none fs name (none_before fs name absent)

  pub with_file-absent : (new : Named) (bytes : List ℕ) → new ≡ (name, bytes) → fs ++ new ∷ [] ≡ with_file fs name bytes
  with_file-absent new bytes is = ap (λ (f : Named). fs ++ f ∷ []) is ∙ sym (with_file-none fs name bytes (none_before fs name absent))

-- a file that was given other bytes has these
pub bytes_of-with_file : (fs : List Named) (name bytes : List ℕ) → bytes_of (with_file fs name bytes) name ≡ Some bytes
bytes_of-with_file [] name bytes = cond-true (bytes_eq name name) _ _ (bytes_eq-same name)
bytes_of-with_file (f ∷ fs) name bytes = elim (cases_Bool (is_named name f)) [
  | inl is ↦ ap (λ (l : List Named). bytes_of l name) (cond-true (is_named name f) _ _ is) ∙ cond-true (bytes_eq name name) _ _ (bytes_eq-same name)
  | inr other ↦ ap (λ (l : List Named). bytes_of l name) (cond-false (is_named name f) _ _ other) ∙ cond-false (is_named name f) _ _ other ∙ bytes_of-with_file fs name bytes
]

-- and the others are as they were
pub with_file-KeepsOthers : (fs : List Named) (name bytes : List ℕ) → KeepsOthers name fs (with_file fs name bytes)
with_file-KeepsOthers [] name bytes other differs = cond-false (bytes_eq name other) _ _ (bytes_eq-other name other (λ is. differs (sym is)))
with_file-KeepsOthers (f ∷ fs) name bytes other differs = elim (cases_Bool (is_named name f)) [
  | inl is ↦
      let f_is : f.0 ≡ name = (bytes_eq-Decides f.0 name).0 is in
      ap (λ (l : List Named). bytes_of l other) (cond-true (is_named name f) _ _ is)
      ∙ cond-false (bytes_eq name other) _ _ (bytes_eq-other name other (λ same. differs (sym same)))
      ∙ sym (cond-false (bytes_eq f.0 other) _ _ (bytes_eq-other f.0 other (λ same. differs (sym same ∙ f_is))))
  | inr unnamed ↦
      ap (λ (l : List Named). bytes_of l other) (cond-false (is_named name f) _ _ unnamed)
      ∙ ap (λ (rest : Option (List ℕ)). if bytes_eq f.0 other then Some f.1 else rest) (with_file-KeepsOthers fs name bytes other differs)
]
