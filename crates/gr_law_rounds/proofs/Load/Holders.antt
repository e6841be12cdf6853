-- The holders at load: places below the count, with the home and the places of the edges among them.
use Rattle.std.proofs.Common.{◌≡◌, ◌<◌, ◌≤◌, ℕ, List, [], ◌∷◌, true, ◌==◌, ◌&&◌, ◌||◌, refl, sym, ◌∙◌, arith, eq-eqb, lt-ltb, ltb-true}
use Rattle.std.specs.List.{AllByRecursion as Each, list_any}
use Rattle.std.proofs.Math.Nat.{mod-lt}
use Rattle.std.proofs.lemmas.Bool.{and_parts, and_from, or_left, or_right}
use Rattle.std.proofs.lemmas.List.Elements.{All-filter}
use Rattle.gr_base.specs.declared.records.Edge.{Edge}
use Rattle.gr_base.specs.Degrees.{indegree}
use Rattle.gr_base.specs.Rising.{has}
use Rattle.gr_base.specs.Places.{IsPlaces, below}
use Rattle.gr_base.proofs.Rising.{filter-rises}
use Rattle.gr_cut.specs.Cut.{home, is_high, place_at_load}
use Rattle.gr_copies.specs.Holders.{has_edge_of, needed_holders, more_holders, first_holders}
use Rattle.gr_lists.proofs.Tests.{by_test}
use Rattle.gr_lists.proofs.Any.{has-filter}
use Rattle.gr_base.proofs.Ranges.{range-rises}
use Rattle.gr_law_rounds.proofs.Load.Ranges.{range-below, has-below, each-itself}

module _ (places theta losses : ℕ) (es : List Edge) (some : 1 ≤ places) (few : places ≤ 64) where
  pub place-below : (e : Edge) → place_at_load places theta es e < places
  place-below e = by_test (is_high theta (indegree es e.dst))
      (λ k. rw k (mod-lt e.src some))
      (λ k. rw k (mod-lt e.dst some))

  pub holders-places : (v : ℕ) → IsPlaces (first_holders places theta losses es v)
  unfolding first_holders
  holders-places v = record {
    rise = filter-rises (λ q. q) (λ p. has (needed_holders places theta losses es v) p || has (more_holders places theta losses es v) p) (below places) (range-rises 0 places);
    below = All-filter (λ p. has (needed_holders places theta losses es v) p || has (more_holders places theta losses es v) p) (λ q. q < 64) (below places) (range-below 0 places 64 (omega (arith, few)));
  }

  pub holder-below : (v p : ℕ) → has (first_holders places theta losses es v) p ≡ true → p < places
  unfolding first_holders
  holder-below v p h =
      let k = and_parts (has (below places) p) _ (sym (has-filter (λ p. has (needed_holders places theta losses es v) p || has (more_holders places theta losses es v) p) (below places) p) ∙ h) in
      ltb-true p places (sym (has-below places p) ∙ k.0)

  -- a needed holder is one
  needed-holds : (v p : ℕ) → p < places → ((home places v == p) || has_edge_of places theta losses es v p) ≡ true → has (first_holders places theta losses es v) p ≡ true
  unfolding first_holders
  needed-holds v p lt n =
      let inside : has (below places) p ≡ true = has-below places p ∙ lt-ltb p places lt in
      let needed : has (needed_holders places theta losses es v) p ≡ true = has-filter (λ p. (home places v == p) || has_edge_of places theta losses es v p) (below places) p ∙ and_from _ _ inside n in
      has-filter (λ p. has (needed_holders places theta losses es v) p || has (more_holders places theta losses es v) p) (below places) p ∙ and_from _ _ inside (or_left _ _ needed)

  pub home-holds : (v : ℕ) → has (first_holders places theta losses es v) (home places v) ≡ true
  home-holds v = needed-holds v (home places v) (mod-lt v some) (or_left _ _ (eq-eqb (home places v) (home places v) refl))

  -- the place of each edge holds both of its ends
  pub ends-held : Each (λ e. (has (first_holders places theta losses es e.src) (place_at_load places theta es e) ≡ true) × (has (first_holders places theta losses es e.dst) (place_at_load places theta es e) ≡ true)) es
  ends-held = both es
      (each-itself (λ x e. ((e.src == x.src) || (e.dst == x.src)) && (place_at_load places theta es e == place_at_load places theta es x)) es (λ x. and_from _ _ (or_left _ _ (eq-eqb x.src x.src refl)) (eq-eqb _ _ refl)))
      (each-itself (λ x e. ((e.src == x.dst) || (e.dst == x.dst)) && (place_at_load places theta es e == place_at_load places theta es x)) es (λ x. and_from _ _ (or_right (x.src == x.dst) _ (eq-eqb x.dst x.dst refl)) (eq-eqb _ _ refl)))
    where
      both : (xs : List Edge) → Each (λ x. list_any (λ e. ((e.src == x.src) || (e.dst == x.src)) && (place_at_load places theta es e == place_at_load places theta es x)) es ≡ true) xs
          → Each (λ x. list_any (λ e. ((e.src == x.dst) || (e.dst == x.dst)) && (place_at_load places theta es e == place_at_load places theta es x)) es ≡ true) xs
          → Each (λ e. (has (first_holders places theta losses es e.src) (place_at_load places theta es e) ≡ true) × (has (first_holders places theta losses es e.dst) (place_at_load places theta es e) ≡ true)) xs
      both [] a b = tt
      both (x ∷ xs) a b = (
        (needed-holds x.src (place_at_load places theta es x) (place-below x) (or_right (home places x.src == place_at_load places theta es x) _ a.0), needed-holds x.dst (place_at_load places theta es x) (place-below x) (or_right (home places x.dst == place_at_load places theta es x) _ b.0)),
        both xs a.1 b.1,
      )
