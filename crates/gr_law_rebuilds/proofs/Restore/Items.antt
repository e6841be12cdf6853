-- Further items put into a rising list, where both are chosen from one rising list.
use Rattle.std.proofs.Common.{◌≡◌, ℕ, ◌+◌, List, [], ◌∷◌, Bool, true, false, ◌==◌, ◌&&◌, ◌||◌, map, filter, filter_map, find, length, refl, sym, ap, ◌∙◌, subst, Option, Some, None, if◌then◌else◌}
use Rattle.std.proofs.lemmas.List.Sums.{length-filter}
use Rattle.gr_base.specs.Rising.{RisesBy, has}
use Rattle.gr_base.proofs.Rising.{filter-rises}
use Rattle.gr_log.specs.Directory.{with_items}
use Rattle.gr_lists.proofs.Tests.{by_test}
use Rattle.gr_lists.proofs.Choices.{or_else}
use Rattle.gr_lists.proofs.Counts.{count_by-or}
use Rattle.gr_lists.proofs.Each.{Each-always}
use Rattle.gr_lists.proofs.Items.{only, rises-same, find-filter, items-rise, find-items, items-rising}
use Rattle.gr_lists.proofs.Maps.{map-rises}
use Rattle.gr_lists.proofs.Selections.{find-filter_map}

module _ {X : Type 0} (p q r : X → Bool) (either : (x : X) → r x ≡ (p x || q x)) where
  only-either : (o : Option X) → or_else (only q o) (only p o) ≡ only r o
  only-either None = refl
  only-either (Some x) = both (p x) (q x) ∙ ap (λ b. if b then Some x else None) (sym (either x))
    where
      both : (a b : Bool) → or_else (if b then Some x else None) (if a then Some x else None) ≡ (if a || b then Some x else None)
      both true true = refl
      both true false = refl
      both false true = refl
      both false false = refl

  -- what passes one test, with what passes another, is what passes either
  pub items-chosen : (key : X → ℕ) (xs : List X) → RisesBy key xs → with_items key (filter q xs) (filter p xs) ≡ filter r xs
  items-chosen key xs rise =
      let news = filter-rises key q xs rise in let old = filter-rises key p xs rise in
      rises-same key (with_items key (filter q xs) (filter p xs)) (filter r xs) (items-rise key (filter q xs) (filter p xs) old) (filter-rises key r xs rise) (λ v.
      find-items key (filter q xs) (filter p xs) v
      ∙ ((λ i. or_else ((ap (find (λ x. key x == v)) (items-rising key (filter q xs) news) ∙ find-filter key q xs rise v) i) (find-filter key p xs rise v i))
      ∙ (only-either (find (λ x. key x == v) xs) ∙ sym (find-filter key r xs rise v))))

  pub length-chosen : ((x : X) → (p x && q x) ≡ false) → (xs : List X) → length (filter r xs) ≡ length (filter p xs) + length (filter q xs)
  length-chosen apart xs = length-filter r xs ∙ (count_by-or r p q xs (Each-always _ (λ x. (either x, apart x)) xs) ∙ sym (λ i. length-filter p xs i + length-filter q xs i))

-- what a test lets through of a choice by number
abbrev pub chosen : {Y : Type 0} → (ℕ → Bool) → (ℕ → Y) → ℕ → Option Y
chosen q f v = if q v then Some (f v) else None

module _ {Y : Type 0} (key : Y → ℕ) (vs : List ℕ) (rise : RisesBy (λ v. v) vs) where
  map-filter-chosen : (f : ℕ → Y) (q : ℕ → Bool) (us : List ℕ) → map f (filter q us) ≡ filter_map (chosen q f) us
  map-filter-chosen f q [] = refl
  map-filter-chosen f q (u ∷ us) = by_test (q u)
      (λ k. rw k (ap (λ l. f u ∷ l) (map-filter-chosen f q us)))
      (λ k. rw k (map-filter-chosen f q us))

  module _ (f : ℕ → Y) (named : (v : ℕ) → key (f v) ≡ v) (q : ℕ → Bool) where
    image-rises : RisesBy key (map f (filter q vs))
    image-rises = map-rises f key (filter q vs) (subst (λ k. RisesBy k (filter q vs)) (λ i v. sym (named v) i) (filter-rises (λ v. v) q vs rise))

    find-image : (v : ℕ) → find (λ y. key y == v) (map f (filter q vs)) ≡ (if has vs v then chosen q f v else None)
    find-image v = ap (find (λ y. key y == v)) (map-filter-chosen f q vs) ∙ find-filter_map key (chosen q f) of-its_number vs v
      where
        of-its_number : (u : ℕ) (y : Y) → chosen q f u ≡ Some y → key y ≡ u
        of-its_number u y e = by_test (q u)
            (λ k. let e' = rw k at e in let same : f u ≡ y = cc in ap key (sym same) ∙ named u)
            (λ k. absurd (let e' = rw k at e in cc))

  -- new images of some numbers, in the place of the old ones: where none is new, the old one is that of the new choice
  pub items-replaced : (f g : ℕ → Y) → ((v : ℕ) → key (f v) ≡ v) → ((v : ℕ) → key (g v) ≡ v) → (p q r : ℕ → Bool)
      → ((v : ℕ) → has vs v ≡ true → q v ≡ true → r v ≡ true) → ((v : ℕ) → has vs v ≡ true → q v ≡ false → chosen p g v ≡ chosen r f v)
      → with_items key (map f (filter q vs)) (map g (filter p vs)) ≡ map f (filter r vs)
  items-replaced f g fs gs p q r given kept =
      rises-same key (with_items key (map f (filter q vs)) (map g (filter p vs))) (map f (filter r vs))
      (items-rise key (map f (filter q vs)) (map g (filter p vs)) (image-rises g gs p)) (image-rises f fs r) (λ v.
      find-items key (map f (filter q vs)) (map g (filter p vs)) v
      ∙ ((λ i. or_else ((ap (find (λ y. key y == v)) (items-rising key (map f (filter q vs)) (image-rises f fs q)) ∙ find-image f fs q v) i) (find-image g gs p v i))
      ∙ (at v ∙ sym (find-image f fs r v))))
    where
      at : (v : ℕ) → or_else (if has vs v then chosen q f v else None) (if has vs v then chosen p g v else None) ≡ (if has vs v then chosen r f v else None)
      at v = by_test (has vs v)
          (λ m. rw m (by_test (q v)
          (λ k. rw (k, given v m k) refl)
          (λ k. rw k (kept v m k))))
          (λ m. rw m refl)
