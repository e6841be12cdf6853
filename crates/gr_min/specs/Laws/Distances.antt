-- A distance is told by its one number.
use Rattle.std.specs.Prelude.{◌≡◌, ◌↔◌, ℕ, [], ◌∷◌, length, nat_eq, IsTrue, refl}
use Rattle.std.proofs.Common.{ap}
use Rattle.std.proofs.lemmas.Bool.{eqb-true, eq-eqb}
use Rattle.gr_min.specs.declared.distance.Distance.{Distance}
use Rattle.gr_min.specs.Distance.{distance}

head_same : (a b : ℕ) → a ∷ [] ≡ b ∷ [] → a ≡ b
head_same a b e = cc

pub distance_same : (x y : Distance) → x.0 ∷ [] ≡ y.0 ∷ [] → x ≡ y
distance_same x y e = ap distance (head_same x.0 y.0 e)

pub distance_width : (x : Distance) → length (x.0 ∷ []) ≡ 1
distance_width x = refl

pub distance_tests : (x y : Distance) → IsTrue (nat_eq x.0 y.0) ↔ (x ≡ y)
distance_tests x y = (λ t. ap distance (eqb-true x.0 y.0 t), λ e. eq-eqb x.0 y.0 (ap (λ d. d.0) e))
