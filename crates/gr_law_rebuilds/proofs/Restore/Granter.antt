-- The granter of a vertex is one of its holders that is not dead, where some holder is not.
use Rattle.std.proofs.Common.{◌≡◌, ◌≢◌, ◌||◌, refl, None, ℕ, List, [], ◌∷◌, true, false, not, ◌==◌, nat_lt, filter, sym, ap, ◌∙◌, arith, Some, ⊎_elim, eq-eqb, eqb-true, lt-ltb}
use Rattle.std.proofs.lemmas.Bool.{and_from, and_parts, both_ways, cases_lt, not-false, not-true, or_cases, or_left, or_right}
use Rattle.std.proofs.lemmas.List.Folds.{list_any-append}
use Rattle.gr_base.specs.Rising.{has, includes}
use Rattle.gr_base.specs.Places.{ring}
use Rattle.gr_copies.specs.Granter.{granter}
use Rattle.gr_lists.proofs.Tests.{by_same, by_option}
use Rattle.gr_lists.proofs.Any.{has-filter, find-none_of, find-one_of}

pub includes-each : (xs ys : List ℕ) → ((v : ℕ) → has ys v ≡ true → has xs v ≡ true) → includes xs ys ≡ true
includes-each xs [] h = refl
includes-each xs (y ∷ ys) h = and_from _ _ (h y (or_left _ _ (eq-eqb y y refl))) (includes-each xs ys (λ v m. h v (or_right _ _ m)))

module _ (m q : ℕ) (hs : List ℕ) where
  has-ring : has (ring m hs) q ≡ (has (filter (λ x. nat_lt m x) hs) q || has (filter (λ x. nat_lt x m) hs) q)
  has-ring = list_any-append (λ x. x == q) (filter (λ x. nat_lt m x) hs) (filter (λ x. nat_lt x m) hs)

  pub ring-within : has (ring m hs) q ≡ true → has hs q ≡ true
  ring-within h = ⊎_elim
      (λ k. (and_parts (has hs q) (nat_lt m q) (sym (has-filter (λ x. nat_lt m x) hs q) ∙ k)).0)
      (λ k. (and_parts (has hs q) (nat_lt q m) (sym (has-filter (λ x. nat_lt x m) hs q) ∙ k)).0)
      (or_cases _ _ (sym has-ring ∙ h))

  -- each of some places other than m stands in ring order after m
  ring-has : has hs q ≡ true → q ≢ m → has (ring m hs) q ≡ true
  ring-has h ne = has-ring ∙ ⊎_elim
      (λ l. or_left _ _ (has-filter (λ x. nat_lt m x) hs q ∙ and_from _ _ h (lt-ltb m q l)))
      (λ g. or_right _ _ (has-filter (λ x. nat_lt x m) hs q ∙ and_from _ _ h (lt-ltb q m (omega (arith, g, ne)))))
      (cases_lt m q)

module _ (dead hs : List ℕ) (m : ℕ) (holds : has hs m ≡ true) (some_left : includes dead hs ≡ false) where
  all-dead : granter dead m hs ≡ None → (v : ℕ) → has hs v ≡ true → has dead v ≡ true
  all-dead none v h = not-false (has dead v) (find-none_of (λ q. not (has dead q)) (m ∷ ring m hs) v none (by_same v m
      (λ e. or_left _ _ (eq-eqb m v (sym e)))
      (λ ne. or_right _ _ (ring-has m v hs h ne))))

  pub granter-left : (q : ℕ) × (granter dead m hs ≡ Some q) × (has hs q ≡ true) × (has dead q ≡ false)
  granter-left = by_option (granter dead m hs)
      (λ none. absurd (both_ways _ some_left (includes-each dead hs (all-dead none))))
      (λ q e. let k = find-one_of (λ q. not (has dead q)) (m ∷ ring m hs) q e in (
        q,
        e,
        ⊎_elim (λ s. ap (has hs) (sym (eqb-true m q s)) ∙ holds) (ring-within m q hs) (or_cases _ _ k.1),
        not-true (has dead q) k.0,
      ))
