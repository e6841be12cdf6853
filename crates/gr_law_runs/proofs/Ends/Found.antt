-- A cluster that has lost vertices has found one.
use Rattle.std.proofs.Common.{◌≡◌, ℕ, zero, suc, List, [], ◌∷◌, Bool, true, false, ◌||◌, ◌==◌, ◌+◌, nat_lt, length, sym, ap, ◌∙◌, Option, Some, None, slice_get, if◌then◌else◌}
use Rattle.gr_base.specs.declared.records.Edge.{Edge}
use Rattle.gr_program.specs.Program.{Program}
use Rattle.gr_sched.specs.declared.event.Event.{Event}
use Rattle.gr_sched.specs.declared.event.Event.TheVariants as event
use Rattle.gr_view.specs.declared.coordinator.Mode.{Mode}
use Rattle.gr_view.specs.declared.coordinator.Mode.TheVariants as mode
use Rattle.gr_view.specs.Modes.{is_over, is_failed, is_rebuild, is_recovery}
use Rattle.gr_view.specs.Decisions.{parties, looked_at, going_back, unready, may_recover, verdict_on, at_barrier, at_recovery, at_repair, at_discard}
use Rattle.gr_cluster.specs.Tables.{Cluster, host}
use Rattle.gr_cluster.specs.Load.{Setting, load}
use Rattle.gr_cluster.specs.Step.{down_among, without_hosts, with_coordinator, after_verdict, barred, lost_list, recovered, opened_or_idle, repaired, discarded_or_idle, discarded, taken_step, step}
use Rattle.gr_cluster.specs.Runs.{Position, next_event, next_position, position_by, position_after}
use Rattle.gr_lists.proofs.Tests.{by_test, by_option}
use Rattle.gr_law_rounds.proofs.Network.Unruled.{IsUnruled, worked_at-unruled, delivered-unruled, dropped-unruled, crashed-unruled}

-- where it has lost some, it names one
abbrev pub SomeLost : {V A : Type 0} → Cluster V A → Type 0
SomeLost c = c.coordinator.mode ≡ mode.Lost → nat_lt 0 (length (lost_list c)) ≡ true

module _ {V A : Type 0} (P : Program V A) (c : Cluster V A) (o : is_over c.coordinator.mode ≡ false) where
  -- the cluster itself has lost nothing
  here : {X : Type 0} → c.coordinator.mode ≡ mode.Lost → X
  here y = absurd (let bad : true ≡ false = sym (ap is_over y) ∙ o in cc)

  unruled-found : (d : Cluster V A) → IsUnruled c.coordinator d.coordinator → SomeLost d
  unruled-found d U = λ y. here (sym U.mode ∙ y)

  verdict-found : (ps : List ℕ) → SomeLost (after_verdict c ps (verdict_on c.coordinator ps).0 (verdict_on c.coordinator ps).1).0
  verdict-found (p ∷ ps) = λ y. absurd (let bad : mode.Failed ≡ mode.Lost = y in cc)
  verdict-found [] = by_test (is_failed c.coordinator.mode)
      (λ f. rw f here)
      (λ f. by_option (unready c.coordinator)
      (λ u. by_test (is_rebuild c.coordinator.mode)
      (λ r. rw (f, u, r) (λ y. absurd (let bad : mode.Running ≡ mode.Lost = y in cc)))
      (λ r. rw (f, u, r) (round-found ((c.coordinator.due == 0) || (c.coordinator.round + 1 == c.coordinator.limit)))))
      (λ p u. rw (f, u) here))
    where
      round-found : {X : Type 0} (b : Bool) → (if b then mode.Done else mode.Running) ≡ mode.Lost → X
      round-found true y = absurd (let bad : mode.Done ≡ mode.Lost = y in cc)
      round-found false y = absurd (let bad : mode.Running ≡ mode.Lost = y in cc)

  -- a recovery finds a loss where a vertex is lost
  recovered-found : (ps : List ℕ) → SomeLost (recovered c ps).0
  unfolding recovered at_recovery
  recovered-found ps = by_test (may_recover c.coordinator ps)
      (λ may. by_test (nat_lt 0 (length (lost_list c)))
      (λ some. rw (may, some) (λ y. some))
      (λ none. rw (may, none) (λ y. absurd (let bad : mode.Recovering ≡ mode.Lost = y in cc))))
      (λ may. rw may here)

  repaired-found : (m : Mode) → SomeLost (opened_or_idle c (at_repair c.coordinator m).1 (with_coordinator (at_repair c.coordinator m).0 c)).0
  unfolding at_repair
  repaired-found mode.Running = λ y. absurd (let bad : mode.Repairing ≡ mode.Lost = y in cc)
  repaired-found _ = here

  discarded-found : (ps : List ℕ) (m : Mode) (d : Cluster V A) → SomeLost (discarded_or_idle c (at_discard c.coordinator ps m).1 (with_coordinator (at_discard c.coordinator ps m).0 d)).0
  unfolding at_discard
  discarded-found ps mode.Running d = λ y. absurd (let bad : mode.Running ≡ mode.Lost = y in cc)
  discarded-found ps mode.Repairing d = λ y. absurd (let bad : mode.Running ≡ mode.Lost = y in cc)
  discarded-found ps mode.Recovering d = λ y. absurd (let bad : mode.Failed ≡ mode.Lost = y in cc)
  discarded-found ps _ d = here

  taken-found : (e : Event) → SomeLost (taken_step P c e).0
  unfolding barred at_barrier repaired discarded
  taken-found (event.Work p) = unruled-found (taken_step P c (event.Work p)).0 (worked_at-unruled P c p (host c p))
  taken-found (event.Deliver i) = unruled-found (taken_step P c (event.Deliver i)).0 (delivered-unruled P c i (slice_get c.flight i))
  taken-found (event.Discarded i) = unruled-found (taken_step P c (event.Discarded i)).0 (dropped-unruled P c i (slice_get c.flight i))
  taken-found (event.Crash p n) = unruled-found (taken_step P c (event.Crash p n)).0 (crashed-unruled P c p n (host c p))
  taken-found event.Barrier = rw o (verdict-found (down_among c (looked_at c.coordinator)))
  taken-found (event.Recover ps) = recovered-found ps
  taken-found event.Repair = repaired-found c.coordinator.mode
  taken-found event.Discard = let ps = down_among c (parties c.coordinator) in
      discarded-found ps c.coordinator.mode (if is_recovery c.coordinator.mode then without_hosts (going_back c.coordinator ps) c else c)

module _ {V A : Type 0} (P : Program V A) where
  step-found : (c : Cluster V A) (e : Event) → SomeLost c → SomeLost (step P c e).0
  unfolding step
  step-found c e S = by_test (is_over c.coordinator.mode) (λ o. rw o S) (λ o. rw o (taken-found P c o e))

  by-found : (s : Position V A) (o : Option Event) → SomeLost s.cluster → SomeLost (position_by P s o).cluster
  by-found s None S = S
  by-found s (Some e) S = step-found s.cluster e S

  pub after-found : (n : ℕ) (s : Position V A) → SomeLost s.cluster → SomeLost (position_after P n s).cluster
  unfolding position_after next_position
  after-found zero s S = S
  after-found (suc n) s S = after-found n (next_position P s) (by-found s (next_event s) S)

  pub load-found : (s : Setting) (es : List Edge) (vs : List ℕ) → SomeLost (load P s es vs)
  unfolding load
  load-found s es vs = none (nat_lt 0 (length vs))
    where
      none : {X : Type 0} (b : Bool) → (if b then mode.Running else mode.Done) ≡ mode.Lost → X
      none true y = absurd (let bad : mode.Running ≡ mode.Lost = y in cc)
      none false y = absurd (let bad : mode.Done ≡ mode.Lost = y in cc)
