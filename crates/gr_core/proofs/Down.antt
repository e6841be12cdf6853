-- Those of some places whose machines are down, found place by place.
use Rattle.std.proofs.Common.{◌≡◌, ◌+◌, ◌<◌, ℕ, List, [], ◌∷◌, Bool, true, false, not, ◌==◌, ◌&&◌, nat_lt, refl, sym, ap, ◌∙◌, subst, arith, length, filter, ltb-true, ltb-false, lt-ltb, eqb-true, eq-eqb, None}
use Rattle.std.specs.Prelude.{is_some}
use Rattle.std.proofs.lemmas.Bool.{le-ltb, and_right}
use Rattle.std.proofs.lemmas.List.{get_or_past}
use Rattle.std.specs.List.{list_all, AllByRecursion as Each}
use Rattle.gr_base.specs.Rising.{has, without, includes}
use Rattle.gr_base.specs.Places.{IsPlaces, without_place}
use Rattle.gr_base.proofs.PlaceTests.{has-contains}
use Rattle.gr_cluster.specs.Tables.{Cluster, is_up}
use Rattle.gr_cluster.specs.Step.{down_among}
use Rattle.gr_lists.proofs.Each.{Each-filter, Each-has}
use Rattle.gr_lists.proofs.Tests.{by_test}

module _ (f g : ℕ → Bool) (same : (q : ℕ) → f q ≡ g q) where
  filter-agree : (ps : List ℕ) → filter f ps ≡ filter g ps
  filter-agree [] = refl
  filter-agree (p ∷ ps) = by_test (g p)
      (λ y. rw (same p ∙ y, y) (ap (λ l. p ∷ l) (filter-agree ps)))
      (λ n. rw (same p ∙ n, n) (filter-agree ps))

module _ (f g : ℕ → Bool) where
  filter-twice : (ps : List ℕ) → filter f (filter g ps) ≡ filter (λ q. g q && f q) ps
  filter-twice [] = refl
  filter-twice (p ∷ ps) = by_test (g p)
      (λ y. by_test (f p) (λ z. rw (y, z) (ap (λ l. p ∷ l) (filter-twice ps))) (λ z. rw (y, z) (filter-twice ps)))
      (λ n. rw n (filter-twice ps))

-- the places that are not among those below p that pass
abbrev pub left_below : (ℕ → Bool) → ℕ → List ℕ → List ℕ
left_below up p ps = filter (λ q. not (nat_lt q p && up q)) ps

module _ (up : ℕ → Bool) (ps : List ℕ) where
  pub left-start : ps ≡ left_below up 0 ps
  left-start = of ps
    where
      of : (qs : List ℕ) → qs ≡ left_below up 0 qs
      of [] = refl
      of (q ∷ qs) = rw (le-ltb q 0 (omega arith)) (ap (λ l. q ∷ l) (of qs))

  -- the next place passes, or does not
  pub left-on : (p : ℕ) → up p ≡ true → without_place (left_below up p ps) p ≡ left_below up (p + 1) ps
  left-on p on = filter-twice (λ q. not (q == p)) (λ q. not (nat_lt q p && up q)) ps ∙ filter-agree _ _ at ps
    where
      at : (q : ℕ) → (not (nat_lt q p && up q) && not (q == p)) ≡ not (nat_lt q (p + 1) && up q)
      at q = by_test (q == p)
          (λ e. let s = eqb-true q p e in
          rw (e, lt-ltb q (p + 1) (omega (arith, s)), le-ltb q p (omega (arith, s)), ap up s ∙ on) refl)
          (λ apart. by_test (nat_lt q p)
          (λ y. let lt = ltb-true q p y in rw (apart, y, lt-ltb q (p + 1) (omega (arith, lt))) (by_test (up q) (λ u. rw u refl) (λ u. rw u refl)))
          (λ n. rw (apart, n, beyond q n apart) refl))
        where
          beyond : (q : ℕ) → nat_lt q p ≡ false → (q == p) ≡ false → nat_lt q (p + 1) ≡ false
          beyond q n apart = by_test (nat_lt q (p + 1))
              (λ y. let a = ltb-true q (p + 1) y in let b = ltb-false q p n in let e : q ≡ p = omega (arith, a, b) in absurd (let bad : true ≡ false = sym (eq-eqb q p e) ∙ apart in cc))
              (λ z. z)

  pub left-off : (p : ℕ) → up p ≡ false → left_below up p ps ≡ left_below up (p + 1) ps
  left-off p off = filter-agree _ _ at ps
    where
      at : (q : ℕ) → not (nat_lt q p && up q) ≡ not (nat_lt q (p + 1) && up q)
      at q = by_test (up q)
          (λ u. by_test (nat_lt q p)
          (λ y. let lt = ltb-true q p y in rw (y, lt-ltb q (p + 1) (omega (arith, lt))) refl)
          (λ n. by_test (nat_lt q (p + 1))
          (λ y. let a = ltb-true q (p + 1) y in let b = ltb-false q p n in let e : q ≡ p = omega (arith, a, b) in absurd (let bad : true ≡ false = sym u ∙ (ap up e ∙ off) in cc))
          (λ z. rw (n, z) refl)))
          (λ d. rw (d, and_right (nat_lt q p) false refl, and_right (nat_lt q (p + 1)) false refl) refl)

-- a set has no place past 64
module _ (down : List ℕ) (set : IsPlaces down) where
  pub left-set : (ps : List ℕ) → left_below (has down) 64 ps ≡ without ps down
  left-set ps = filter-agree _ _ at ps
    where
      at : (q : ℕ) → not (nat_lt q 64 && has down q) ≡ not (has down q)
      at q = by_test (has down q)
          (λ m. let place = has-contains down q m in let lt : q < 64 = subst (λ p. p < 64) place.2 (set.below place.0 q place.1) in rw (m, lt-ltb q 64 lt) refl)
          (λ n. rw (n, and_right (nat_lt q 64) false refl) refl)

-- no place past the table is up
module _ {V A : Type 0} (c : Cluster V A) (n : ℕ) (whole : length c.hosts ≡ n) where
  pub left-all : (ps : List ℕ) → left_below (is_up c) n ps ≡ down_among c ps
  left-all ps = filter-agree _ _ at ps
    where
      at : (q : ℕ) → not (nat_lt q n && is_up c q) ≡ not (is_up c q)
      at q = by_test (nat_lt q n)
          (λ y. rw y refl)
          (λ past. let le = ltb-false q n past in rw (past, ap is_some (get_or_past c.hosts q None (omega (arith, le, whole)))) refl)

-- they are among the places that were looked at
pub includes-down : {V A : Type 0} (c : Cluster V A) (ps : List ℕ) → includes ps (down_among c ps) ≡ true
includes-down c ps = all (has ps) (down_among c ps) (Each-filter (λ q. has ps q ≡ true) (λ q. not (is_up c q)) ps (Each-has (λ q. has ps q ≡ true) ps (λ q m. m)))
  where
    all : (f : ℕ → Bool) (qs : List ℕ) → Each (λ q. f q ≡ true) qs → list_all f qs ≡ true
    all f [] h = refl
    all f (q ∷ qs) h = rw (h.0) (all f qs h.1)
