-- An amount is told by its one number.
use Rattle.std.specs.Prelude.{◌≡◌, ◌↔◌, ℕ, [], ◌∷◌, length, nat_eq, IsTrue, refl}
use Rattle.std.proofs.Common.{ap}
use Rattle.std.proofs.lemmas.Bool.{eqb-true, eq-eqb}
use Rattle.gr_sum.specs.declared.amount.Amount.{Amount}
use Rattle.gr_sum.specs.Amount.{amount}

head_same : (a b : ℕ) → a ∷ [] ≡ b ∷ [] → a ≡ b
head_same a b e = cc

pub amount_same : (x y : Amount) → x.0 ∷ [] ≡ y.0 ∷ [] → x ≡ y
amount_same x y e = ap amount (head_same x.0 y.0 e)

pub amount_width : (x : Amount) → length (x.0 ∷ []) ≡ 1
amount_width x = refl

pub amount_tests : (x y : Amount) → IsTrue (nat_eq x.0 y.0) ↔ (x ≡ y)
amount_tests x y = (λ t. ap amount (eqb-true x.0 y.0 t), λ e. eq-eqb x.0 y.0 (ap (λ a. a.0) e))
