-- The first place of the difference of two sets, as what a search finds.
use Rattle.std.proofs.Common.{◌≡◌, ◌∙◌, ◌<◌, ℕ, suc, Bool, not, List, [], ◌∷◌, refl, sym, ap, arith}
use Rattle.std.specs.Prelude.{slice_get}
use Rattle.std.specs.List.{All, find}
use Rattle.gr_base.specs.Rising.{has, without}
use Rattle.gr_base.specs.Places.{IsPlaces}
use Rattle.gr_base.proofs.Members.{find-filter}

-- tests that agree on a list find the same in it
pub find-agree : {X : Type 0} (p q : X → Bool) (xs : List X) → All (λ x. p x ≡ q x) xs → find p xs ≡ find q xs
find-agree p q [] a = refl
find-agree p q (x ∷ xs) a =
    let here : p x ≡ q x = a 0 x (omega arith) in
    let rest : find p xs ≡ find q xs = find-agree p q xs (λ k d l. a (suc k) d (omega arith)) in
    cc

-- the first place that does not pass a test, if a set holds those that do
pub first-without : (t : ℕ → Bool) (ps held : List ℕ) → IsPlaces ps → ((p : ℕ) → p < 64 → has held p ≡ t p) → slice_get (without ps held) 0 ≡ find (λ p. not (t p)) ps
first-without t ps held is same =
    sym (find-filter (λ p. not (has held p)) ps)
    ∙ find-agree (λ p. not (has held p)) (λ p. not (t p)) ps (λ i d l. ap not (same _ (is.below i d l)))
