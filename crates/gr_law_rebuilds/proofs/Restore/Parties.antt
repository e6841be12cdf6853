-- The sets of places after the commit of a rebuild: the parties are live, and each other dead place is retired.
use Rattle.std.proofs.Common.{◌≡◌, ◌<◌, ◌≤◌, ℕ, ◌+◌, Bool, true, false, cond, not, ◌&&◌, ◌||◌, nat_lt, refl, sym, ap, ◌∙◌, arith, ⊎_elim}
use Rattle.std.proofs.lemmas.Bool.{and_left, and_parts, and_right, both_ways, cond-true, lt-ltb, not-true, or_cases, or_left, or_parts, or_right}
use Rattle.gr_base.specs.Rising.{has, without}
use Rattle.gr_base.proofs.Union.{has-union}
use Rattle.gr_view.specs.declared.coordinator.Coordinator.{Coordinator}
use Rattle.gr_view.specs.declared.coordinator.Mode.TheVariants as mode
use Rattle.gr_view.specs.Decisions.{parties, rebuild_committed}
use Rattle.gr_agree.specs.Places.{PlacesHold, sets_with}
use Rattle.gr_lists.proofs.Tests.{by_test}
use Rattle.gr_law_rebuilds.proofs.Epoch.Places.{has-without, live-not_dead}

-- a place stands in as many sets: one that is reborn is live, and one that is dead otherwise is retired
sets-after : (l d r b : Bool) → (b ≡ true → d ≡ true) → cond {A = ℕ} l 1 0 + cond d 1 0 + cond r 1 0 ≤ 1
    → cond {A = ℕ} (l || b) 1 0 + 0 + cond (r || (d && not b)) 1 0 ≡ cond l 1 0 + cond d 1 0 + cond r 1 0
sets-after true true r b h le = absurd (omega (arith, le))
sets-after true false true b h le = absurd (omega (arith, le))
sets-after true false false true h le = absurd (let bad : false ≡ true = h refl in cc)
sets-after true false false false h le = refl
sets-after false true true b h le = absurd (omega (arith, le))
sets-after false true false true h le = refl
sets-after false true false false h le = refl
sets-after false false true true h le = absurd (let bad : false ≡ true = h refl in cc)
sets-after false false false true h le = absurd (let bad : false ≡ true = h refl in cc)
sets-after false false true false h le = refl
sets-after false false false false h le = refl

module _ (places : ℕ) (is_up : ℕ → Bool) (co : Coordinator) (W : PlacesHold places is_up co) where
  abbrev co' : Coordinator
  co' = rebuild_committed co

  has-retired : (p : ℕ) → has co'.retired p ≡ (has co.retired p || (has co.dead p && not (has co.reborn p)))
  has-retired p = has-union p co.retired (without co.dead co.reborn) ∙ ap (λ b. has co.retired p || b) (has-without co.dead co.reborn p)

  one-at-most : (p : ℕ) → sets_with co p ≤ 1
  one-at-most p = by_test (nat_lt p places)
      (λ e. let is : sets_with co p ≡ 1 = W.one_set p ∙ ap (λ b. cond b 1 0) e in omega (arith, is))
      (λ e. let is : sets_with co p ≡ 0 = W.one_set p ∙ ap (λ b. cond b 1 0) e in omega (arith, is))

  -- a party is not retired, and does not retire
  pub party-stays : (p : ℕ) → has (parties co) p ≡ true → (has co'.retired p ≡ false) × ((has co.dead p && not (has co.reborn p)) ≡ false)
  party-stays p party = ⊎_elim
      (λ l. let d = live-not_dead co places p (W.one_set p) l in let k = and_left _ (not (has co.reborn p)) d in (at l k, k))
      (λ b. let k = and_right (has co.dead p) _ (ap not b) in (reborn b k, k))
      (or_cases _ _ (sym (has-union p co.live co.reborn) ∙ party))
    where
      at : has co.live p ≡ true → (has co.dead p && not (has co.reborn p)) ≡ false → has co'.retired p ≡ false
      at l k = by_test (has co.retired p)
          (λ r. absurd (let le = rw (l, r) at (one-at-most p) in omega (arith, le)))
          (λ r. has-retired p ∙ λ i. r i || k i)

      reborn : has co.reborn p ≡ true → (has co.dead p && not (has co.reborn p)) ≡ false → has co'.retired p ≡ false
      reborn b k = by_test (has co.retired p)
          (λ r. absurd (let le = rw (W.reborn_dead p b, r) at (one-at-most p) in omega (arith, le)))
          (λ r. has-retired p ∙ λ i. r i || k i)

  -- a place that is not retired afterwards is a party
  pub unretired-party : (p : ℕ) → p < places → has co'.retired p ≡ false → has (parties co) p ≡ true
  unretired-party p lt r =
      let k : (has co.retired p ≡ false) × ((has co.dead p && not (has co.reborn p)) ≡ false) = or_parts _ _ (sym (has-retired p) ∙ r) in
      let unretired = k.0 in
      let one : sets_with co p ≡ 1 = W.one_set p ∙ cond-true (nat_lt p places) 1 0 (lt-ltb p places lt) in
      has-union p co.live co.reborn ∙ by_test (has co.live p)
      (λ l. or_left _ _ l)
      (λ l. by_test (has co.dead p)
      (λ d. by_test (has co.reborn p)
      (λ b. or_right _ _ b)
      (λ b. absurd (both_ways _ k.1 (λ i. d i && not (b i)))))
      (λ d. absurd (let one' = rw (l, d, unretired) at one in omega (arith, one'))))

  -- a place that is not retired before is live or dead
  pub unretired-live : (p : ℕ) → p < places → has co.retired p ≡ false → has co.dead p ≡ false → has co.live p ≡ true
  unretired-live p lt r d =
      let one : sets_with co p ≡ 1 = W.one_set p ∙ cond-true (nat_lt p places) 1 0 (lt-ltb p places lt) in
      by_test (has co.live p) (λ l. l) (λ l. absurd (let one' = rw (l, d, r) at one in omega (arith, one')))

  pub places-after : PlacesHold places is_up co'
  places-after = record {
    one_set = λ p.
        (λ i. cond {A = ℕ} (has-union p co.live co.reborn i) 1 0 + 0 + cond (has-retired p i) 1 0)
        ∙ (sets-after (has co.live p) (has co.dead p) (has co.retired p) (has co.reborn p) (W.reborn_dead p) (one-at-most p) ∙ W.one_set p);
    reborn_dead = λ p b. b;
    none_dead = λ e. refl;
    none_reborn = λ e. refl;
    retired_down = λ p r. ⊎_elim
        (W.retired_down p)
        (λ k. let both = and_parts _ _ k in W.dead_down p both.0 (not-true _ both.1))
        (or_cases _ _ (sym (has-retired p) ∙ r));
    dead_down = λ p d. absurd (let bad : false ≡ true = d in cc);
    done_up = λ e. absurd (let bad : mode.Running ≡ mode.Done = e in cc);
    spares = let few = W.spares in omega (arith, few);
  }
