-- Sets of places: unions, differences, those that are down, and in which of the sets of a cluster a place stands.
use Rattle.std.proofs.Common.{◌≡◌, ◌<◌, ◌≤◌, ℕ, List, [], ◌∷◌, Bool, true, false, cond, not, ◌==◌, ◌&&◌, length, refl, sym, ap, ◌∙◌, subst, arith, nat_lt, get_or, eqb-true, eq-eqb, ltb-true}
use Rattle.std.specs.List.{All, list_all, filter}
use Rattle.std.proofs.lemmas.List.Elements.{All-from_get_or, All-filter}
use Rattle.std.proofs.lemmas.List.Filters.{length-filter_both}
use Rattle.std.proofs.lemmas.List.Folds.{list_any_at}
use Rattle.std.proofs.lemmas.Bool.{and_parts, not-true}
use Rattle.gr_base.specs.Rising.{has, union, without, includes}
use Rattle.gr_base.specs.Places.{IsPlaces}
use Rattle.gr_base.proofs.PlaceTests.{has-contains}
use Rattle.gr_base.proofs.Rising.{filter-rises}
use Rattle.gr_base.proofs.Union.{has-union, union-rises}
use Rattle.gr_view.specs.declared.coordinator.Coordinator.{Coordinator}
use Rattle.gr_cluster.specs.Tables.{Cluster, is_up}
use Rattle.gr_cluster.specs.Step.{down_among}
use Rattle.gr_agree.specs.Places.{sets_with}
use Rattle.gr_lists.proofs.Tests.{by_test}
use Rattle.gr_lists.proofs.Any.{has-filter}

-- what holds of each number of a list holds of those that stand in it, and the other way round
All-of_has : (Q : ℕ → Type 0) (xs : List ℕ) → ((v : ℕ) → has xs v ≡ true → Q v) → All Q xs
All-of_has Q xs h = All-from_get_or Q xs 0 (λ i lt. h (get_or xs i 0) (list_any_at (λ x. x == get_or xs i 0) xs i 0 lt (eq-eqb (get_or xs i 0) (get_or xs i 0) refl)))

of-has : (Q : ℕ → Type 0) (xs : List ℕ) (v : ℕ) → All Q xs → has xs v ≡ true → Q v
of-has Q xs v all m = let at = has-contains xs v m in subst Q at.2 (all at.0 v at.1)

pub IsPlaces-union : (ps qs : List ℕ) → IsPlaces ps → IsPlaces qs → IsPlaces (union ps qs)
IsPlaces-union ps qs are are' = record {
  rise = union-rises ps qs are.rise are'.rise;
  below = All-of_has (λ p. p < 64) (union ps qs) (λ p m. by_test (has ps p)
      (λ e. of-has (λ q. q < 64) ps p are.below e)
      (λ e. of-has (λ q. q < 64) qs p are'.below (let m' = rw (has-union p ps qs, e) at m in m')));
}

pub IsPlaces-filter : (f : ℕ → Bool) (ps : List ℕ) → IsPlaces ps → IsPlaces (filter f ps)
IsPlaces-filter f ps are = record {
  rise = filter-rises (λ p. p) f ps are.rise;
  below = All-filter f (λ p. p < 64) ps are.below;
}

pub has-without : (ps qs : List ℕ) (p : ℕ) → has (without ps qs) p ≡ (has ps p && not (has qs p))
has-without ps qs p = has-filter (λ q. not (has qs q)) ps p

pub length-without : (ps qs : List ℕ) → length (without ps qs) ≤ length ps
length-without ps qs = omega (arith, length-filter_both (λ p. not (has qs p)) (λ p. not (not (has qs p))) (λ p. refl) ps)

pub has-included : (xs ys : List ℕ) (v : ℕ) → includes xs ys ≡ true → has ys v ≡ true → has xs v ≡ true
has-included xs [] v all m = absurd (let bad : false ≡ true = m in cc)
has-included xs (y ∷ ys) v all m =
    let a = and_parts (has xs y) (list_all (has xs) ys) all in by_test (y == v)
    (λ e. ap (has xs) (sym (eqb-true y v e)) ∙ a.0)
    (λ e. let m' : has ys v ≡ true = rw e at m in has-included xs ys v a.1 m')

-- those among some places whose machines are down
pub down-among : {V A : Type 0} (c : Cluster V A) (ps : List ℕ) (p : ℕ) → has (down_among c ps) p ≡ true → (has ps p ≡ true) × (is_up c p ≡ false)
down-among c ps p m =
    let both = and_parts (has ps p) (not (is_up c p)) (sym (has-filter (λ q. not (is_up c q)) ps p) ∙ m) in (both.0, not-true (is_up c p) both.1)

module _ (co : Coordinator) (places p : ℕ) (one : sets_with co p ≡ cond (nat_lt p places) 1 0) where
  at-most-one : sets_with co p ≤ 1
  at-most-one = by_test (nat_lt p places)
      (λ e. let is : sets_with co p ≡ 1 = rw e at one in omega (arith, is))
      (λ e. let is : sets_with co p ≡ 0 = rw e at one in omega (arith, is))

  -- a live place is not dead, and a dead place is not retired
  pub live-not_dead : has co.live p ≡ true → has co.dead p ≡ false
  live-not_dead l = by_test (has co.dead p)
      (λ k. absurd (let le = rw (l, k) at at-most-one in omega (arith, le)))
      (λ k. k)

  pub dead-not_retired : has co.dead p ≡ true → has co.retired p ≡ false
  dead-not_retired l = by_test (has co.retired p)
      (λ k. absurd (let le = rw (l, k) at at-most-one in omega (arith, le)))
      (λ k. k)

  -- it is one of the places
  pub dead-within : has co.dead p ≡ true → p < places
  dead-within l = by_test (nat_lt p places)
      (λ e. ltb-true p places e)
      (λ e. absurd (let is : sets_with co p ≡ 0 = rw e at one in let is' = rw l at is in omega (arith, is')))
