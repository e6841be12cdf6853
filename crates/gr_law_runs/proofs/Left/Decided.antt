-- What the decisions of the coordinator make of the epoch.
use Rattle.std.proofs.Common.{◌≡◌, ℕ, ◌+◌, ◌≤◌, List, [], ◌∷◌, Bool, true, false, take, refl, arith, None, inl, inr, length, zero, suc, eq-eqb}
use Rattle.std.specs.Prelude.{◌⊎◌, nat_lt, if◌then◌else◌}
use Rattle.std.specs.List.{list_all}
use Rattle.std.proofs.lemmas.Bool.{and_from, or_left, or_right, le-leb}
use Rattle.std.proofs.lemmas.List.{length-take}
use Rattle.gr_base.specs.Rising.{has}
use Rattle.gr_view.specs.declared.coordinator.Coordinator.{Coordinator}
use Rattle.gr_view.specs.declared.coordinator.Mode.{Mode}
use Rattle.gr_view.specs.declared.coordinator.Mode.TheVariants as mode
use Rattle.gr_view.specs.Modes.{is_failed, is_over, is_rebuild, is_recovery}
use Rattle.gr_view.specs.Decisions.{parties, looked_at, unready, committed, verdict_on, at_barrier, may_recover, at_recovery, at_repair, at_discard, going_back}
use Rattle.gr_cluster.specs.Tables.{Cluster}
use Rattle.gr_cluster.specs.Step.{down_among, without_hosts, with_coordinator, after_verdict, barred, lost_list, recovered, opened_or_idle, repaired, discarded_or_idle, discarded}
use Rattle.gr_lists.proofs.Tests.{by_test, by_option}

-- as many of the first numbers of a list as there may be: each stands in the list, and they are no more
pub take-within : (f : ℕ → Bool) (n : ℕ) (xs : List ℕ) → ((v : ℕ) → has xs v ≡ true → f v ≡ true) → list_all f (take n xs) ≡ true
take-within f zero xs h = refl
take-within f (suc n) [] h = refl
take-within f (suc n) (x ∷ xs) h = and_from _ _ (h x (or_left _ _ (eq-eqb x x refl))) (take-within f n xs (λ v m. h v (or_right _ _ m)))

take-few : (n : ℕ) (xs : List ℕ) → length (take n xs) ≤ n
take-few n xs = let l = length-take n xs in omega (arith, l)

module _ {V A : Type 0} (c : Cluster V A) where
  abbrev co : Coordinator
  co = c.coordinator

  abbrev pub IsRaised : Cluster V A → Type 0
  IsRaised d = d.coordinator.epoch ≡ c.coordinator.epoch + 1

  -- nothing happens, or a new epoch begins
  abbrev pub IsDecided : Cluster V A → Type 0
  IsDecided d = (d ≡ c) ⊎ IsRaised d

  commit-raises : (committed co).epoch ≡ co.epoch + 1
  commit-raises = by_test (is_rebuild co.mode) (λ e. rw e refl) (λ e. rw e refl)

  verdict-decided : (ps : List ℕ) → IsDecided (after_verdict c ps (verdict_on co ps).0 (verdict_on co ps).1).0
  verdict-decided [] = by_test (is_failed co.mode)
      (λ f. rw f (inl refl))
      (λ f. rw f (by_option (unready co)
      (λ u. rw u (inr commit-raises))
      (λ p u. rw u (inl refl))))
  verdict-decided (p ∷ ps) = inr refl

  pub barred-decided : is_over co.mode ≡ false → IsDecided (barred c).0
  unfolding barred at_barrier
  barred-decided o = rw o (verdict-decided (down_among c (looked_at co)))

  -- a barrier begins a new epoch where it finds a crash, or else every party has reported
  pub barred-raises : is_over co.mode ≡ false → (down_among c (looked_at co) ≡ [] → (is_failed co.mode ≡ false) × (unready co ≡ None)) → IsRaised (barred c).0
  unfolding barred at_barrier
  barred-raises o clear = rw o (raises (down_among c (looked_at co)) clear)
    where
      raises : (ps : List ℕ) → (ps ≡ [] → (is_failed co.mode ≡ false) × (unready co ≡ None)) → IsRaised (after_verdict c ps (verdict_on co ps).0 (verdict_on co ps).1).0
      raises [] clear = let k = clear refl in rw (k.0, k.1) commit-raises
      raises (p ∷ ps) clear = refl

  -- a recovery opens, or finds a loss
  pub recovered-decided : (ps : List ℕ) → IsDecided (recovered c ps).0 ⊎ (is_over (recovered c ps).0.coordinator.mode ≡ true)
  unfolding recovered at_recovery
  recovered-decided ps = by_test (may_recover co ps)
      (λ m. rw m (by_test (nat_lt 0 (length (lost_list c)))
      (λ l. rw l (inr refl))
      (λ l. rw l (inl (inr refl)))))
      (λ m. rw m (inl (inl refl)))

  pub recovered-raises : is_failed co.mode ≡ true → IsRaised (recovered c (take co.spares co.dead)).0 ⊎ (is_over (recovered c (take co.spares co.dead)).0.coordinator.mode ≡ true)
  unfolding recovered at_recovery
  recovered-raises f =
      let may : may_recover co (take co.spares co.dead) ≡ true =
      and_from _ _ f (and_from _ _ (take-within (has co.dead) co.spares co.dead (λ v m. m)) (le-leb _ _ (take-few co.spares co.dead))) in
      rw may (by_test (nat_lt 0 (length (lost_list c)))
      (λ l. rw l (inr refl))
      (λ l. rw l (inl refl)))

  pub repaired-decided : IsDecided (repaired c).0
  unfolding repaired at_repair
  repaired-decided = of co.mode
    where
      of : (m : Mode) → IsDecided (opened_or_idle c (at_repair co m).1 (with_coordinator (at_repair co m).0 c)).0
      of mode.Running = inr refl
      of _ = inl refl

  pub discarded-decided : IsDecided (discarded c).0
  unfolding discarded at_discard
  discarded-decided = of co.mode (down_among c (parties co)) (if is_recovery co.mode then without_hosts (going_back co (down_among c (parties co))) c else c)
    where
      of : (m : Mode) (ps : List ℕ) (d : Cluster V A) → IsDecided (discarded_or_idle c (at_discard co ps m).1 (with_coordinator (at_discard co ps m).0 d)).0
      of mode.Failed ps d = inl refl
      of mode.Done ps d = inl refl
      of mode.Lost ps d = inl refl
      of _ ps d = inr refl
