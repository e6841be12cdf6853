-- A barrier that finds crashed places.
use Rattle.std.proofs.Common.{◌≡◌, ◌≢◌, ℕ, ◌+◌, List, [], ◌∷◌, Bool, true, false, cond, not, ◌&&◌, ◌||◌, refl, sym, ap, ◌∙◌, subst, inl, inr}
use Rattle.std.proofs.lemmas.Bool.{and_parts, or_left}
use Rattle.gr_base.specs.Rising.{has, union, without}
use Rattle.gr_base.specs.Places.{IsPlaces}
use Rattle.gr_base.proofs.Union.{has-union}
use Rattle.gr_program.specs.Program.{Program}
use Rattle.gr_batch.specs.declared.outcome.Outcome.{Outcome}
use Rattle.gr_sched.specs.declared.event.Event.TheVariants as event
use Rattle.gr_view.specs.declared.coordinator.Mode.TheVariants as mode
use Rattle.gr_view.specs.Modes.{is_over, is_failed}
use Rattle.gr_view.specs.Decisions.{looked_at, unready, verdict_on, at_barrier}
use Rattle.gr_cluster.specs.Tables.{Cluster, is_up}
use Rattle.gr_cluster.specs.Step.{down_among, after_verdict, barred, step}
use Rattle.gr_cluster.specs.Runs.{is_commit}
use Rattle.gr_agree.specs.Truth.{Truth}
use Rattle.gr_agree.specs.Agree.{Agree}
use Rattle.gr_lists.proofs.Tests.{by_test, by_option}
use Rattle.gr_lists.proofs.Any.{has-filter}
use Rattle.gr_law_rebuilds.specs.Epoch.{IsLater, IsNewEpoch}
use Rattle.gr_law_rebuilds.proofs.Epoch.Agrees.{opened-later}
use Rattle.gr_law_rebuilds.proofs.Epoch.Places.{IsPlaces-union, IsPlaces-filter, has-without, down-among, live-not_dead}
use Rattle.gr_law_rebuilds.proofs.Epoch.Returns.{returned, Returns, returned-opens}

module _ {V A : Type 0} (P : Program V A) (t : Truth V) (c : Cluster V A) (AG : Agree P t c) where
  abbrev crashed : List ℕ
  crashed = down_among c (looked_at c.coordinator)

  pub looked-places : IsPlaces (looked_at c.coordinator)
  looked-places = let S = AG.committed.shaped in by_test (is_failed c.coordinator.mode)
      (λ f. rw f S.live)
      (λ f. rw f (IsPlaces-union c.coordinator.live c.coordinator.reborn S.live S.reborn))

  crashed-places : IsPlaces crashed
  crashed-places = IsPlaces-filter (λ p. not (is_up c p)) (looked_at c.coordinator) looked-places

  -- every live place is looked at
  live-looked : (p : ℕ) → has c.coordinator.live p ≡ true → has (looked_at c.coordinator) p ≡ true
  live-looked p l = by_test (is_failed c.coordinator.mode)
      (λ f. rw f l)
      (λ f. rw f (has-union p c.coordinator.live c.coordinator.reborn ∙ or_left _ _ l))

  -- those of the live places stay live that are up
  live-up : (p : ℕ) → has (without c.coordinator.live crashed) p ≡ (has c.coordinator.live p && is_up c p)
  live-up p = has-without c.coordinator.live crashed p
      ∙ (ap (λ b. has c.coordinator.live p && not b) (has-filter (λ q. not (is_up c q)) (looked_at c.coordinator) p)
      ∙ up-ones (has c.coordinator.live p) (has (looked_at c.coordinator) p) (is_up c p) (live-looked p))
    where
      up-ones : (l k u : Bool) → (l ≡ true → k ≡ true) → (l && not (k && not u)) ≡ (l && u)
      up-ones false k u all = refl
      up-ones true true true all = refl
      up-ones true true false all = refl
      up-ones true false u all = absurd (let bad : false ≡ true = all refl in cc)

  -- one that was not live was reborn, and so dead
  looked-live_or_dead : (p : ℕ) → has (looked_at c.coordinator) p ≡ true → has c.coordinator.live p ≡ false → has c.coordinator.dead p ≡ true
  looked-live_or_dead p m l = by_test (is_failed c.coordinator.mode)
      (λ f. let m' = rw (f, l) at m in absurd (let bad : false ≡ true = m' in cc))
      (λ f. let m' : has (union c.coordinator.live c.coordinator.reborn) p ≡ true = rw f at m in
      AG.committed.places.reborn_dead p (let m'' = rw (has-union p c.coordinator.live c.coordinator.reborn, l) at m' in m''))

  -- each place stands where it stood, but the crashed ones are dead
  moved : (p : ℕ) → cond {A = ℕ} (has (without c.coordinator.live crashed) p) 1 0 + cond (has (union c.coordinator.dead crashed) p) 1 0
      ≡ cond (has c.coordinator.live p) 1 0 + cond (has c.coordinator.dead p) 1 0
  moved p =
      let co = c.coordinator in
      ap (λ b. cond {A = ℕ} b 1 0 + cond (has (union co.dead crashed) p) 1 0) (has-without co.live crashed p)
      ∙ (ap (λ b. cond {A = ℕ} (has co.live p && not (has crashed p)) 1 0 + cond b 1 0) (has-union p co.dead crashed)
      ∙ counted (has co.live p) (has co.dead p) (has crashed p) (live-not_dead co c.places p (AG.committed.places.one_set p)) (λ m. looked-live_or_dead p (down-among c (looked_at c.coordinator) p m).0))
    where
      counted : (l k d : Bool) → (l ≡ true → k ≡ false) → (d ≡ true → l ≡ false → k ≡ true)
          → cond {A = ℕ} (l && not d) 1 0 + cond (k || d) 1 0 ≡ cond l 1 0 + cond k 1 0
      counted true true d ne or = absurd (let bad : true ≡ false = ne refl in cc)
      counted true false true ne or = refl
      counted true false false ne or = refl
      counted false true d ne or = refl
      counted false false true ne or = absurd (let bad : false ≡ true = or refl refl in cc)
      counted false false false ne or = refl

  crashed-return : Returns P t c AG crashed (without c.coordinator.live crashed) (union c.coordinator.dead crashed)
  crashed-return = record {
    live_places = IsPlaces-filter (λ p. not (has crashed p)) c.coordinator.live AG.committed.shaped.live;
    dead_places = IsPlaces-union c.coordinator.dead crashed AG.committed.shaped.dead crashed-places;
    one_set = moved;
    was_live = λ p m. (and_parts (has c.coordinator.live p) (not (has crashed p)) (sym (has-without c.coordinator.live crashed p) ∙ m)).0;
    was_dead = λ p m. by_test (has c.coordinator.dead p)
        (λ k. inl k)
        (λ k. inr (down-among c (looked_at c.coordinator) p (let m' = rw (has-union p c.coordinator.dead crashed, k) at m in m')).1);
    crashed = λ p m. (down-among c (looked_at c.coordinator) p m).1;
  }

  -- a decision that commits nothing and opens a new epoch
  abbrev Decides : Cluster V A × Outcome V A → Type 0
  Decides r = is_commit r.1 ≡ false → IsNewEpoch c r.0 → ((p : ℕ) → has r.0.coordinator.live p ≡ (has c.coordinator.live p && is_up c p)) × IsLater P t c r.0

  verdict-later : c.coordinator.mode ≢ mode.Done → (ps : List ℕ) → crashed ≡ ps → Decides (after_verdict c ps (verdict_on c.coordinator ps).0 (verdict_on c.coordinator ps).1)
  verdict-later goes_on [] is = by_test (is_failed c.coordinator.mode)
      (λ f. rw f (λ n new. absurd (new refl)))
      (λ f. rw f (by_option (unready c.coordinator)
      (λ u. rw u (λ n new. absurd (let bad : true ≡ false = n in cc)))
      (λ p u. rw u (λ n new. absurd (new refl)))))
  verdict-later goes_on (p ∷ ps) is = λ n new. (
    λ q. ap (λ qs. has (without c.coordinator.live qs) q) (sym is) ∙ live-up q,
    opened-later P t c AG (returned P t c AG (p ∷ ps) (without c.coordinator.live (p ∷ ps)) (union c.coordinator.dead (p ∷ ps)))
        (returned-opens P t c AG (p ∷ ps) (without c.coordinator.live (p ∷ ps)) (union c.coordinator.dead (p ∷ ps))
        (subst (λ qs. Returns P t c AG qs (without c.coordinator.live qs) (union c.coordinator.dead qs)) is crashed-return) goes_on),
  )

  barred-later : is_over c.coordinator.mode ≡ false → Decides (barred c)
  unfolding barred at_barrier
  barred-later o = rw o (verdict-later (λ e. let bad : true ≡ false = sym (ap is_over e) ∙ o in cc) crashed refl)

  pub barrier-later : Decides (step P c event.Barrier)
  unfolding step
  barrier-later = by_test (is_over c.coordinator.mode)
      (λ o. rw o (λ n new. absurd (new refl)))
      (λ o. rw o (barred-later o))
