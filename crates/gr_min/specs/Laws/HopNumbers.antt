-- A hop and an offer are told by their numbers.
use Rattle.std.specs.Prelude.{◌≡◌, ◌↔◌, ℕ, [], ◌∷◌, length, nat_eq, IsTrue, ◌&&◌, refl}
use Rattle.std.proofs.Common.{ap, subst, arith}
use Rattle.std.proofs.lemmas.Bool.Decides.{nat_tests}
use Rattle.std.proofs.Math.Bool.{Bool-set}
use Rattle.gr_min.specs.declared.hop.Hop.{Hop}
use Rattle.gr_min.specs.declared.hop.HopSum.{HopSum}
use Rattle.gr_min.specs.Together.{AreTogether}
use Rattle.gr_min.specs.HopSum.{reached_by, hop}

one_proof : (d p : ℕ) → IsProp (AreTogether d p)
one_proof d p = hlevel Bool-set

sum_of : (d p : ℕ) → AreTogether d p → HopSum
sum_of d p t = record { distance = d; parent = p; together = t }

sum_along : (d p : ℕ) (t : AreTogether d p) (d' : ℕ) → d ≡ d' → (p' : ℕ) → p ≡ p' → (t' : AreTogether d' p') → sum_of d p t ≡ sum_of d' p' t'
sum_along d p t d' e p' f t' =
    let P : ℕ → Type 0 = λ r. (q : ℕ) → p ≡ q → (s : AreTogether r q) → sum_of d p t ≡ sum_of r q s in
    let Q : ℕ → Type 0 = λ q. (s : AreTogether d q) → sum_of d p t ≡ sum_of d q s in
    let here : Q p = λ s. ap (λ (u : AreTogether d p). sum_of d p u) (one_proof d p t s) in
    let there : P d = λ q g s. subst Q g here s in
    subst P e there p' f t'

pub same_offer : (x y : HopSum) → x.distance ≡ y.distance → x.parent ≡ y.parent → x ≡ y
unfolding sum_of
same_offer x y e f = sum_along x.distance x.parent x.together y.distance e y.parent f y.together

pub same_hop : (x y : Hop) → x.at ≡ y.at → x.distance ≡ y.distance → x.parent ≡ y.parent → x ≡ y
same_hop x y a e f = λ i. hop (a i) (same_offer (reached_by x) (reached_by y) e f i)

two : (a b c d : ℕ) → a ∷ b ∷ [] ≡ c ∷ d ∷ [] → (a ≡ c) × (b ≡ d)
two a b c d e = (cc, cc)

three : (a b c d e f : ℕ) → a ∷ b ∷ c ∷ [] ≡ d ∷ e ∷ f ∷ [] → (a ≡ d) × (b ≡ e) × (c ≡ f)
three a b c d e f g = (cc, cc, cc)

pub sum_same : (x y : HopSum) → x.distance ∷ x.parent ∷ [] ≡ y.distance ∷ y.parent ∷ [] → x ≡ y
sum_same x y e = let q = two x.distance x.parent y.distance y.parent e in same_offer x y q.0 q.1

pub hop_same : (x y : Hop) → x.at ∷ x.distance ∷ x.parent ∷ [] ≡ y.at ∷ y.distance ∷ y.parent ∷ [] → x ≡ y
hop_same x y e = let q = three x.at x.distance x.parent y.at y.distance y.parent e in same_hop x y q.0 q.1 q.2

pub sum_width : (x : HopSum) → length (x.distance ∷ x.parent ∷ []) ≡ 2
sum_width x = refl

pub hop_width : (x : Hop) → length (x.at ∷ x.distance ∷ x.parent ∷ []) ≡ 3
hop_width x = refl

tests_two : (a b c d : ℕ) → IsTrue (nat_eq a c && nat_eq b d) → (a ≡ c) × (b ≡ d)
tests_two a b c d h = ((grind (arith, nat_tests)), (grind (arith, nat_tests)))

two_tests : (a b c d : ℕ) → a ≡ c → b ≡ d → IsTrue (nat_eq a c && nat_eq b d)
two_tests a b c d e f = grind (arith, nat_tests)

pub sum_tests : (x y : HopSum) → IsTrue (nat_eq x.distance y.distance && nat_eq x.parent y.parent) ↔ (x ≡ y)
sum_tests x y = (
  (λ h. let q = tests_two x.distance x.parent y.distance y.parent h in same_offer x y q.0 q.1),
  λ e. two_tests x.distance x.parent y.distance y.parent (ap (λ (s : HopSum). s.distance) e) (ap (λ (s : HopSum). s.parent) e),
)

tests_three : (a b c d e f : ℕ) → IsTrue (nat_eq a d && (nat_eq b e && nat_eq c f)) → (a ≡ d) × (b ≡ e) × (c ≡ f)
tests_three a b c d e f h = ((grind (arith, nat_tests)), (grind (arith, nat_tests)), (grind (arith, nat_tests)))

three_tests : (a b c d e f : ℕ) → a ≡ d → b ≡ e → c ≡ f → IsTrue (nat_eq a d && (nat_eq b e && nat_eq c f))
three_tests a b c d e f g h k = grind (arith, nat_tests)

pub hop_tests : (x y : Hop) → IsTrue (nat_eq x.at y.at && (nat_eq x.distance y.distance && nat_eq x.parent y.parent)) ↔ (x ≡ y)
hop_tests x y = (
  (λ h. let q = tests_three x.at x.distance x.parent y.at y.distance y.parent h in same_hop x y q.0 q.1 q.2),
  λ e. three_tests x.at x.distance x.parent y.at y.distance y.parent (ap (λ (s : Hop). s.at) e) (ap (λ (s : Hop). s.distance) e) (ap (λ (s : Hop). s.parent) e),
)
