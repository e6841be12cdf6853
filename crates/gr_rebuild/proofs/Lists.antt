-- What the elements of a map, of a gathered list and of a set of numbers meet.
use Rattle.std.proofs.Common.{◌≡◌, ℕ, List, [], ◌∷◌, Bool, false, ◌==◌, ◌&&◌, ◌||◌, map, flat_map, refl, ap, ◌∙◌, eqb-true}
use Rattle.std.specs.List.{AllByRecursion as Each, list_any}
use Rattle.std.proofs.lemmas.Bool.{and_right}
use Rattle.std.proofs.Math.Bool.{and-true}
use Rattle.gr_base.specs.Rising.{has}
use Rattle.gr_lists.proofs.Tests.{by_test}
use Rattle.gr_lists.proofs.Each.{Each-append, Each-always}
use Rattle.gr_lists.proofs.Any.{list_any-agree, list_any-and}

module _ {X Y : Type 0} where
  pub any-map : (f : Y → Bool) (g : X → Y) (xs : List X) → list_any f (map g xs) ≡ list_any (λ x. f (g x)) xs
  any-map f g [] = refl
  any-map f g (x ∷ xs) = ap (λ b. f (g x) || b) (any-map f g xs)

  pub Each-flat_map : (Q : Y → Type 0) (f : X → List Y) (xs : List X) → Each (λ x. Each Q (f x)) xs → Each Q (flat_map f xs)
  Each-flat_map Q f [] h = tt
  Each-flat_map Q f (x ∷ xs) h = Each-append Q (f x) (flat_map f xs) h.0 (Each-flat_map Q f xs h.1)

-- a test of the elements that are q
pub any-at : (f : ℕ → Bool) (q : ℕ) (xs : List ℕ) → list_any (λ r. f r && (r == q)) xs ≡ (has xs q && f q)
any-at f q xs = list_any-agree _ _ xs (Each-always (λ r. (f r && (r == q)) ≡ ((r == q) && f q)) (λ r. by_test (r == q)
    (λ e. rw e (and-true (f r) ∙ ap f (eqb-true r q e)))
    (λ e. rw e (and_right (f r) false refl))) xs)
    ∙ list_any-and (λ r. r == q) (f q) xs
