-- What each element of a list meets, and how many places a set has.
use Rattle.std.proofs.Common.{◌≡◌, ◌≤◌, ◌<◌, ℕ, zero, suc, List, [], ◌∷◌, Bool, true, false, ◌==◌, length, get_or, refl, subst, arith, eqb-true, ⊎_elim}
use Rattle.std.specs.List.{AllByRecursion as Each, list_all}
use Rattle.std.proofs.lemmas.Bool.{and_from, cases_lt}
use Rattle.std.proofs.lemmas.List.Elements.{All-get_or}
use Rattle.gr_base.specs.Rising.{has}
use Rattle.gr_base.specs.Places.{IsPlaces}
use Rattle.gr_lists.proofs.Tests.{by_test}

pub all-each : {X : Type 0} (f : X → Bool) (xs : List X) → Each (λ x. f x ≡ true) xs → list_all f xs ≡ true
all-each f [] h = refl
all-each f (x ∷ xs) h = and_from (f x) (list_all f xs) h.0 (all-each f xs h.1)

-- what each number of a list meets, one that stands in it does
pub has-meets : (Q : ℕ → Type 0) (xs : List ℕ) (v : ℕ) → Each Q xs → has xs v ≡ true → Q v
has-meets Q [] v h m = absurd (let bad : false ≡ true = m in cc)
has-meets Q (x ∷ xs) v h m = by_test (x == v)
    (λ e. subst Q (eqb-true x v e) h.0)
    (λ e. let m' : has xs v ≡ true = rw e at m in has-meets Q xs v h.1 m')

-- a set of places has 64 members at most
at-least : (ps : List ℕ) → IsPlaces ps → (i : ℕ) → i < length ps → i ≤ get_or ps i 0
at-least ps S zero lt = omega arith
at-least ps S (suc i) lt =
    let ih = at-least ps S i (omega (arith, lt)) in let up = S.rise i (suc i) 0 (omega arith) lt in omega (arith, ih, up)

pub places-few : (ps : List ℕ) → IsPlaces ps → length ps ≤ 64
places-few ps S = ⊎_elim
    (λ lt. absurd (let low = at-least ps S 64 lt in let high = All-get_or (λ p. p < 64) ps 64 0 lt S.below in omega (arith, low, high)))
    (λ le. le) (cases_lt 64 (length ps))
