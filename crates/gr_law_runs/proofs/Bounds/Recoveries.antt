-- A recovery where no live place is down spends an epoch, or finds a loss, which ends the run.
use Rattle.std.proofs.Common.{◌≡◌, ℕ, ◌+◌, List, true, false, not, ◌&&◌, nat_lt, sym, ap, ◌∙◌, arith, Some, None, length, ⊎_elim, if◌then◌else◌}
use Rattle.std.specs.Prelude.{is_some, nat_le}
use Rattle.std.specs.List.{list_any}
use Rattle.std.proofs.lemmas.Bool.{and_parts, and_from, both_ways, not_from_false, or_cases, true_from_ne_false}
use Rattle.gr_base.specs.Rising.{has, union, includes}
use Rattle.gr_base.proofs.Union.{has-union}
use Rattle.gr_program.specs.Program.{Program}
use Rattle.gr_sched.specs.declared.event.Event.TheVariants as event
use Rattle.gr_view.specs.declared.coordinator.Mode.TheVariants as mode
use Rattle.gr_view.specs.Modes.{is_failed, is_over}
use Rattle.gr_view.specs.Decisions.{parties, may_recover, recovering, at_recovery}
use Rattle.gr_cluster.specs.Tables.{Host, Cluster, host, is_up, log}
use Rattle.gr_cluster.specs.Step.{lost_list, reborn_host, with_reborn, with_coordinator, recovered, step}
use Rattle.gr_cluster.specs.Canonical.{is_crash_unseen}
use Rattle.gr_cluster.specs.ToGo.{epochs_of, somebody_down, epochs_left}
use Rattle.gr_agree.specs.Truth.{Truth}
use Rattle.gr_agree.specs.Agree.{Agree}
use Rattle.gr_lists.proofs.Tests.{by_test}
use Rattle.gr_lists.proofs.Any.{has-filter, filter-none}
use Rattle.gr_law_rebuilds.proofs.Epoch.Tables.{within-changed_at, get_or-unchanged}
use Rattle.gr_law_rebuilds.proofs.Epoch.Places.{has-included, dead-within}
use Rattle.gr_law_rebuilds.proofs.Epoch.Unopened.{failed-mode}
use Rattle.gr_law_runs.proofs.Bounds.Epochs.{nobody-down, Spends, same-spends}

module _ {V A : Type 0} (P : Program V A) (t : Truth V) (c : Cluster V A) (AG : Agree P t c) where
  module _ (was_failed : is_failed c.coordinator.mode ≡ true) (seen : is_crash_unseen c ≡ false) where
    live-up : (p : ℕ) → has c.coordinator.live p ≡ true → is_up c p ≡ true
    live-up p m = true_from_ne_false (is_up c p) (λ down.
        let listed = has-filter (λ q. not (is_up c q)) c.coordinator.live p in
        let none = ap (λ l. has l p) (filter-none (λ q. not (is_up c q)) c.coordinator.live seen) in
        both_ways _ (sym listed ∙ none) (and_from _ _ m (not_from_false _ down)))

    two-left : epochs_left c ≡ 2
    two-left =
        let m = failed-mode c.coordinator.mode was_failed in
        let calm : somebody_down c ≡ false = ap (λ b. list_any (λ p. not (is_up c p)) (if b then c.coordinator.live else parties c.coordinator)) was_failed ∙ seen in
        λ i. epochs_of (m i) (calm i)

    module _ (ps : List ℕ) where
      abbrev newborn : ℕ → Host V A
      newborn p = reborn_host (c.coordinator.epoch + 1) c.coordinator.commits (log c p).committed

      abbrev begun : Cluster V A
      begun = with_coordinator (recovering c.coordinator ps) (with_reborn ps c)

      -- each party is up
      begun-up : includes c.coordinator.dead ps ≡ true → (p : ℕ) → has (union c.coordinator.live ps) p ≡ true → is_up begun p ≡ true
      begun-up are_dead p m = by_test (has ps p)
          (λ y.
          let lt = dead-within c.coordinator c.places p (AG.committed.places.one_set p) (has-included c.coordinator.dead ps p are_dead y) in
          let many = AG.committed.shaped.hosts in
          ap is_some (within-changed_at ps (λ q _. Some (newborn q)) c.hosts p None (omega (arith, lt, many)) ∙ ap (λ b. if b then Some (newborn p) else host c p) y))
          (λ n.
          let live : has c.coordinator.live p ≡ true = ⊎_elim (λ l. l) (λ y. absurd (both_ways _ n y)) (or_cases _ _ (sym (has-union p c.coordinator.live ps) ∙ m)) in
          ap is_some (get_or-unchanged ps (λ q _. Some (newborn q)) c.hosts p None n) ∙ live-up p live)

      begun-spends : includes c.coordinator.dead ps ≡ true → Spends c begun
      begun-spends are_dead =
          let one : epochs_left begun ≡ 1 = ap (epochs_of mode.Recovering) (nobody-down begun (begun-up are_dead)) in
          let two = two-left in record { spent = omega (arith, one, two) }

      recovered-spends : Spends c (recovered c ps).0
      unfolding recovered at_recovery
      recovered-spends = by_test (may_recover c.coordinator ps)
          (λ may. by_test (nat_lt 0 (length (lost_list c)))
          (λ lost. rw (may, lost) (record { spent = omega arith }))
          (λ lost.
          let both = and_parts (is_failed c.coordinator.mode) (includes c.coordinator.dead ps && nat_le (length ps) c.coordinator.spares) may in
          let more = and_parts (includes c.coordinator.dead ps) (nat_le (length ps) c.coordinator.spares) both.1 in
          rw (may, lost) (begun-spends more.0)))
          (λ may. rw may (same-spends c))

      pub recovery-spends : Spends c (step P c (event.Recover ps)).0
      unfolding step
      recovery-spends = by_test (is_over c.coordinator.mode)
          (λ o. rw o (same-spends c))
          (λ o. rw o recovered-spends)
