-- No event changes the limit of rounds.
use Rattle.std.proofs.Common.{◌≡◌, ℕ, List, [], ◌∷◌, false, refl, slice_get, nat_lt, length, if◌then◌else◌}
use Rattle.gr_program.specs.Program.{Program}
use Rattle.gr_sched.specs.declared.event.Event.{Event}
use Rattle.gr_sched.specs.declared.event.Event.TheVariants as event
use Rattle.gr_view.specs.declared.coordinator.Mode.{Mode}
use Rattle.gr_view.specs.declared.coordinator.Mode.TheVariants as mode
use Rattle.gr_view.specs.Modes.{is_over, is_failed, is_rebuild, is_recovery}
use Rattle.gr_view.specs.Decisions.{parties, looked_at, going_back, unready, may_recover, verdict_on, at_barrier, at_recovery, at_repair, at_discard}
use Rattle.gr_cluster.specs.Tables.{Cluster, host}
use Rattle.gr_cluster.specs.Step.{down_among, without_hosts, with_coordinator, after_verdict, barred, lost_list, recovered, opened_or_idle, repaired, discarded_or_idle, discarded, taken_step, step}
use Rattle.gr_lists.proofs.Tests.{by_test, by_option}
use Rattle.gr_law_rounds.proofs.Network.Unruled.{worked_at-unruled, delivered-unruled, dropped-unruled, crashed-unruled}

module _ {V A : Type 0} (P : Program V A) (c : Cluster V A) where
  abbrev IsSame : Cluster V A → Type 0
  IsSame d = d.coordinator.limit ≡ c.coordinator.limit

  verdict-same : (ps : List ℕ) → IsSame (after_verdict c ps (verdict_on c.coordinator ps).0 (verdict_on c.coordinator ps).1).0
  verdict-same (p ∷ ps) = refl
  verdict-same [] = by_test (is_failed c.coordinator.mode)
      (λ f. rw f refl)
      (λ f. by_option (unready c.coordinator)
      (λ u. by_test (is_rebuild c.coordinator.mode) (λ r. rw (f, u, r) refl) (λ r. rw (f, u, r) refl))
      (λ p u. rw (f, u) refl))

  recovered-same : (ps : List ℕ) → IsSame (recovered c ps).0
  unfolding recovered at_recovery
  recovered-same ps = by_test (may_recover c.coordinator ps)
      (λ may. by_test (nat_lt 0 (length (lost_list c))) (λ some. rw (may, some) refl) (λ some. rw (may, some) refl))
      (λ may. rw may refl)

  repaired-same : (m : Mode) → IsSame (opened_or_idle c (at_repair c.coordinator m).1 (with_coordinator (at_repair c.coordinator m).0 c)).0
  unfolding at_repair
  repaired-same mode.Running = refl
  repaired-same _ = refl

  discarded-same : (ps : List ℕ) (m : Mode) (d : Cluster V A) → IsSame (discarded_or_idle c (at_discard c.coordinator ps m).1 (with_coordinator (at_discard c.coordinator ps m).0 d)).0
  unfolding at_discard
  discarded-same ps mode.Running d = refl
  discarded-same ps _ d = refl

  taken-same : (e : Event) → is_over c.coordinator.mode ≡ false → IsSame (taken_step P c e).0
  unfolding barred at_barrier repaired discarded
  taken-same (event.Work p) o = (worked_at-unruled P c p (host c p)).limit
  taken-same (event.Deliver i) o = (delivered-unruled P c i (slice_get c.flight i)).limit
  taken-same (event.Discarded i) o = (dropped-unruled P c i (slice_get c.flight i)).limit
  taken-same (event.Crash p n) o = (crashed-unruled P c p n (host c p)).limit
  taken-same event.Barrier o = rw o (verdict-same (down_among c (looked_at c.coordinator)))
  taken-same (event.Recover ps) o = recovered-same ps
  taken-same event.Repair o = repaired-same c.coordinator.mode
  taken-same event.Discard o = let ps = down_among c (parties c.coordinator) in
      discarded-same ps c.coordinator.mode (if is_recovery c.coordinator.mode then without_hosts (going_back c.coordinator ps) c else c)

  pub limit-step : (e : Event) → IsSame (step P c e).0
  unfolding step
  limit-step e = by_test (is_over c.coordinator.mode) (λ o. rw o refl) (λ o. rw o (taken-same e o))
