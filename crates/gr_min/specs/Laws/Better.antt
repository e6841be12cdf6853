-- The better of two offers: a choice by a total order.
use Rattle.std.specs.Prelude.{◌≡◌, ℕ, ◌==◌, ◌&&◌, ◌||◌, nat_lt, Bool, true, false, IsTrue, if◌then◌else◌}
use Rattle.std.proofs.Common.{ap, sym, ◌∙◌, arith, inl, inr}
use Rattle.std.proofs.lemmas.Bool.{cases_Bool, cond-true, cond-false}
use Rattle.std.proofs.lemmas.Bool.Decides.{nat_tests}
use Rattle.gr_sum.specs.Infinity.{infinity, is_number}
use Rattle.gr_min.specs.declared.hop.HopSum.{HopSum}
use Rattle.gr_min.specs.HopSum.{nowhere, is_better, better}
use Rattle.gr_min.specs.Hops.{is_offer}
use Rattle.gr_min.specs.Laws.HopNumbers.{same_offer}

-- the order on pairs of numbers
abbrev less : ℕ → ℕ → ℕ → ℕ → Bool
less d p e q = nat_lt d e || ((d == e) && nat_lt p q)

less-trans : (a b c d e f : ℕ) → less a b c d ≡ true → less c d e f ≡ true → less a b e f ≡ true
less-trans a b c d e f h k = grind (arith, nat_tests)

at_most-trans : (a b c d e f : ℕ) → less c d a b ≡ false → less e f c d ≡ false → less e f a b ≡ false
at_most-trans a b c d e f h k = grind (arith, nat_tests)

less-anti : (a b c d : ℕ) → less a b c d ≡ true → less c d a b ≡ false
less-anti a b c d h = grind (arith, nat_tests)

neither-distance : (a b c d : ℕ) → less a b c d ≡ false → less c d a b ≡ false → a ≡ c
neither-distance a b c d h k = grind (arith, nat_tests)

neither-parent : (a b c d : ℕ) → less a b c d ≡ false → less c d a b ≡ false → b ≡ d
neither-parent a b c d h k = grind (arith, nat_tests)

second : (a b : HopSum) → is_better b a ≡ true → better a b ≡ b
second a b h = cond-true (is_better b a) b a h

first : (a b : HopSum) → is_better b a ≡ false → better a b ≡ a
first a b h = cond-false (is_better b a) b a h

pub better-comm : (a b : HopSum) → better a b ≡ better b a
better-comm a b = elim (cases_Bool (is_better b a)) [
  | inl on ↦ second a b on ∙ sym (first b a (less-anti b.distance b.parent a.distance a.parent on))
  | inr off ↦ elim (cases_Bool (is_better a b)) [
    | inl on ↦ first a b off ∙ sym (second b a on)
    | inr out ↦ first a b off ∙ same_offer a b (neither-distance a.distance a.parent b.distance b.parent out off) (neither-parent a.distance a.parent b.distance b.parent out off) ∙ sym (first b a out)
  ]
]

pub better-assoc : (a b c : HopSum) → better (better a b) c ≡ better a (better b c)
better-assoc a b c = elim (cases_Bool (is_better b a)) [
  | inl on ↦ elim (cases_Bool (is_better c b)) [
    | inl more ↦
        ap (λ (x : HopSum). better x c) (second a b on) ∙ second b c more
        ∙ sym (ap (better a) (second b c more) ∙ second a c (less-trans c.distance c.parent b.distance b.parent a.distance a.parent more on))
    | inr less ↦ ap (λ (x : HopSum). better x c) (second a b on) ∙ first b c less ∙ sym (ap (better a) (first b c less) ∙ second a b on)
  ]
  | inr off ↦ elim (cases_Bool (is_better c b)) [
    | inl more ↦ ap (λ (x : HopSum). better x c) (first a b off) ∙ sym (ap (better a) (second b c more))
    | inr out ↦
        ap (λ (x : HopSum). better x c) (first a b off)
        ∙ first a c (at_most-trans a.distance a.parent b.distance b.parent c.distance c.parent off out)
        ∙ sym (ap (better a) (first b c out) ∙ first a b off)
  ]
]

better-choice : (P : HopSum → Bool) (t : Bool) (a b : HopSum) → IsTrue (P a) → IsTrue (P b) → IsTrue (P (if t then b else a))
better-choice P true a b h k = k
better-choice P false a b h k = h

pub better-kept : (a b : HopSum) → IsTrue (is_offer a) → IsTrue (is_offer b) → IsTrue (is_offer (better a b))
better-kept a b h k = better-choice is_offer (is_better b a) a b h k

far_distance : (d p : ℕ) → IsTrue (is_number d && is_number p) → less d p infinity infinity ≡ false → infinity ≡ d
far_distance d p h off = grind (arith, nat_tests)

far_parent : (d p : ℕ) → IsTrue (is_number d && is_number p) → less d p infinity infinity ≡ false → infinity ≡ p
far_parent d p h off = grind (arith, nat_tests)

pub better-unit : (a : HopSum) → IsTrue (is_offer a) → better nowhere a ≡ a
better-unit a h = elim (cases_Bool (is_better a nowhere)) [
  | inl on ↦ second nowhere a on
  | inr off ↦ first nowhere a off ∙ same_offer nowhere a (far_distance a.distance a.parent h off) (far_parent a.distance a.parent h off)
]
