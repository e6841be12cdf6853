-- The place that grants a vertex: a holder that is not dead.
use Rattle.std.proofs.Common.{◌≡◌, ◌≢◌, ℕ, List, [], ◌∷◌, Bool, true, false, not, ◌==◌, filter, nat_lt, refl, sym, ap, ◌∙◌, subst, ⊎_elim, Option, Some, eq-eqb, eqb-true}
use Rattle.std.specs.List.{list_all}
use Rattle.std.proofs.lemmas.Bool.{and_parts, and_from, or_cases, or_left, or_right, both_ways, not-true, not-false, lt-ltb, cases_order}
use Rattle.std.proofs.lemmas.List.Folds.{list_any-append}
use Rattle.gr_base.specs.Rising.{has, includes}
use Rattle.gr_base.specs.Places.{ring}
use Rattle.gr_copies.specs.declared.view.RebuildView.{RebuildView}
use Rattle.gr_copies.specs.Granter.{granter}
use Rattle.gr_log.specs.Directory.{Entry}
use Rattle.gr_rules.specs.Taken.{is_granter, master_after}
use Rattle.gr_lists.proofs.Tests.{by_test, by_option, by_same}
use Rattle.gr_lists.proofs.Any.{has-filter, find-one_of, find-none_of}

ring-held : (m q : ℕ) (hs : List ℕ) → has (ring m hs) q ≡ true → has hs q ≡ true
ring-held m q hs h = ⊎_elim
    (λ k. (and_parts (has hs q) (nat_lt m q) (sym (has-filter (λ x. nat_lt m x) hs q) ∙ k)).0)
    (λ k. (and_parts (has hs q) (nat_lt q m) (sym (has-filter (λ x. nat_lt x m) hs q) ∙ k)).0)
    (or_cases (has (filter (λ x. nat_lt m x) hs) q) (has (filter (λ x. nat_lt x m) hs) q) (sym (list_any-append (λ x. x == q) (filter (λ x. nat_lt m x) hs) (filter (λ x. nat_lt x m) hs)) ∙ h))

on-ring : (m q : ℕ) (hs : List ℕ) → has hs q ≡ true → q ≢ m → has (ring m hs) q ≡ true
on-ring m q hs h ne = list_any-append (λ x. x == q) (filter (λ x. nat_lt m x) hs) (filter (λ x. nat_lt x m) hs) ∙ ⊎_elim
    (λ e. absurd (ne e))
    (λ o. ⊎_elim
    (λ lt. or_right (has (filter (λ x. nat_lt m x) hs) q) _ (has-filter (λ x. nat_lt x m) hs q ∙ and_from _ _ h (lt-ltb q m lt)))
    (λ gt. or_left _ _ (has-filter (λ x. nat_lt m x) hs q ∙ and_from _ _ h (lt-ltb m q gt)))
    o)
    (cases_order q m)

all-has : (f : ℕ → Bool) (xs : List ℕ) → ((v : ℕ) → has xs v ≡ true → f v ≡ true) → list_all f xs ≡ true
all-has f [] h = refl
all-has f (x ∷ xs) h = and_from _ _ (h x (or_left _ _ (eq-eqb x x refl))) (all-has f xs (λ v m. h v (or_right _ _ m)))

module _ (w : RebuildView) (e : Entry) where
  abbrev alive : ℕ → Bool
  alive q = not (has w.dead q)

  abbrev first : Option ℕ
  first = granter w.dead e.master e.holders

  -- who grants is found first
  granter-first : (p : ℕ) → is_granter w e p ≡ true → first ≡ Some p
  granter-first p g = by_option first
      (λ none. absurd (let g' = rw (none, is_granter) at g in let bad : false ≡ true = g' in cc))
      (λ q some. let g' = rw (some, is_granter) at g in some ∙ ap Some (eqb-true q p g'))

  -- it is not dead
  pub granter-alive : (p : ℕ) → is_granter w e p ≡ true → has w.dead p ≡ false
  granter-alive p g = not-true _ (find-one_of alive (e.master ∷ ring e.master e.holders) p (granter-first p g)).0

  pub dead-grants_none : (p : ℕ) → has w.dead p ≡ true → is_granter w e p ≡ false
  dead-grants_none p d = by_test (is_granter w e p) (λ g. absurd (both_ways _ (granter-alive p g) d)) (λ n. n)

  -- it holds the vertex, as the master does
  pub granter-holds : (p : ℕ) → has e.holders e.master ≡ true → is_granter w e p ≡ true → has e.holders p ≡ true
  granter-holds p mine g =
      let there = (find-one_of alive (e.master ∷ ring e.master e.holders) p (granter-first p g)).1 in by_same p e.master
      (λ k. subst (λ q. has e.holders q ≡ true) (sym k) mine)
      (λ ne. ring-held e.master p e.holders (⊎_elim (λ k. absurd (ne (sym (eqb-true e.master p k)))) (λ k. k) (or_cases (e.master == p) _ there)))

  -- a master that is not dead grants, and stays the master
  pub granter-master : (p : ℕ) → has w.dead e.master ≡ false → is_granter w e p ≡ true → p ≡ e.master
  granter-master p a g = let g' = rw (a, is_granter) at g in sym (eqb-true e.master p g')

  pub master-stays : has w.dead e.master ≡ false → master_after w e ≡ e.master
  master-stays a = rw a refl

  -- one grants where some holder is not dead
  pub granter-there : includes w.dead e.holders ≡ false → (q : ℕ) × (is_granter w e q ≡ true)
  granter-there some_alive = by_option first
      (λ none. absurd (both_ways _ some_alive (all-has (has w.dead) e.holders (λ q m. by_same q e.master
      (λ k. not-false _ (find-none_of alive (e.master ∷ ring e.master e.holders) q none (or_left _ _ (eq-eqb e.master q (sym k)))))
      (λ ne. not-false _ (find-none_of alive (e.master ∷ ring e.master e.holders) q none (or_right _ _ (on-ring e.master q e.holders m ne))))))))
      (λ q found. (q, rw (found, is_granter) (eq-eqb q q refl)))
