-- Which events commit: a barrier at which nobody crashed and every party has reported.
use Rattle.std.proofs.Common.{◌≡◌, ℕ, List, [], ◌∷◌, Bool, true, false, not, ◌&&◌, refl, sym, ap, ◌∙◌, Option, Some, None}
use Rattle.std.specs.Prelude.{IsTrue, if◌then◌else◌, nat_lt, slice_get, length}
use Rattle.std.specs.List.{filter}
use Rattle.std.proofs.lemmas.Bool.{both_ways, not-false}
use Rattle.gr_base.specs.Rising.{has}
use Rattle.gr_program.specs.Program.{Program}
use Rattle.gr_batch.specs.declared.outcome.Outcome.{Outcome}
use Rattle.gr_sched.specs.declared.event.Event.{Event}
use Rattle.gr_sched.specs.declared.event.Event.TheVariants as event
use Rattle.gr_view.specs.declared.coordinator.Coordinator.{Coordinator}
use Rattle.gr_view.specs.declared.coordinator.Opening.{Opening}
use Rattle.gr_view.specs.declared.coordinator.Opening.TheVariants as opening
use Rattle.gr_view.specs.Modes.{is_over, is_failed, is_recovery}
use Rattle.gr_view.specs.Decisions.{parties, looked_at, unready, committed, verdict_on, at_barrier, at_recovery, at_repair, at_discard, going_back}
use Rattle.gr_cluster.specs.Tables.{Cluster, host, is_up}
use Rattle.gr_cluster.specs.Step.{down_among, without_hosts, with_coordinator, with_logs_committed, after_verdict, barred, lost_list, after_opening, recovered, opened_or_idle, repaired, discarded_or_idle, discarded, taken_step, step}
use Rattle.gr_cluster.specs.Runs.{is_commit}
use Rattle.gr_lists.proofs.Tests.{by_test, by_option}
use Rattle.gr_lists.proofs.Any.{find-none_of, has-filter}
use Rattle.gr_law_rounds.proofs.Network.Unruled.{worked_at-aside, delivered-aside, dropped-aside, crashed-aside}

-- a filter that keeps nothing refuses each element
none-passes : (f : ℕ → Bool) (xs : List ℕ) → filter f xs ≡ [] → (v : ℕ) → has xs v ≡ true → f v ≡ false
none-passes f xs none v m = by_test (f v)
    (λ e. absurd (let there : has (filter f xs) v ≡ true = has-filter f xs v ∙ (ap (λ b. b && f v) m ∙ e) in let bad : false ≡ true = sym (ap (λ l. has l v) none) ∙ there in cc))
    (λ e. e)

module _ {V A : Type 0} (P : Program V A) (c : Cluster V A) where
  -- the outcomes of the other events are no commits
  opening-commits : (ps : List ℕ) (co : Coordinator) (o : Opening) → is_commit (after_opening c ps co o).1 ≡ false
  opening-commits ps co (opening.Opened e) = refl
  opening-commits ps co _ = refl

  repaired-commits : (o : Option ℕ) (d : Cluster V A) → is_commit (opened_or_idle c o d).1 ≡ false
  repaired-commits None d = refl
  repaired-commits (Some e) d = refl

  discarded-commits : (o : Option ℕ) (d : Cluster V A) → is_commit (discarded_or_idle c o d).1 ≡ false
  discarded-commits None d = refl
  discarded-commits (Some e) d = refl

  -- what a verdict makes of the cluster, where it commits
  abbrev Commits : Cluster V A × Outcome V A → Type 0
  Commits r = IsTrue (is_commit r.1) → (down_among c (parties c.coordinator) ≡ []) × (unready c.coordinator ≡ None) × (r.0 ≡ with_coordinator (committed c.coordinator) (with_logs_committed c))

  barrier-commits : (ps : List ℕ) → down_among c (looked_at c.coordinator) ≡ ps → Commits (after_verdict c ps (verdict_on c.coordinator ps).0 (verdict_on c.coordinator ps).1)
  barrier-commits [] none = by_test (is_failed c.coordinator.mode)
      (λ f. rw f (λ y. absurd (let bad : false ≡ true = y in cc)))
      (λ f. rw f (by_option (unready c.coordinator)
      (λ u. rw u (λ y. (ap (λ b. down_among c (if b then c.coordinator.live else parties c.coordinator)) (sym f) ∙ none, refl, refl)))
      (λ p u. rw u (λ y. absurd (let bad : false ≡ true = y in cc)))))
  barrier-commits (p ∷ ps) none = λ y. absurd (let bad : false ≡ true = y in cc)

  barred-commits : is_over c.coordinator.mode ≡ false → Commits (barred c)
  unfolding barred at_barrier
  barred-commits o = rw o (barrier-commits (down_among c (looked_at c.coordinator)) refl)

  no : {X : Type 0} (b : Bool) → b ≡ false → IsTrue b → X
  no b e y = absurd (both_ways b e y)

  pub committing : (e : Event) → Commits (step P c e)
  unfolding step recovered repaired discarded
  committing e = by_test (is_over c.coordinator.mode)
      (λ o. rw o (λ y. absurd (let bad : false ≡ true = y in cc)))
      (λ o. rw o (of e o))
    where
      of : (e : Event) → is_over c.coordinator.mode ≡ false → Commits (taken_step P c e)
      of (event.Work p) o = no _ (worked_at-aside P c p (host c p)).none
      of (event.Deliver i) o = no _ (delivered-aside P c i (slice_get c.flight i)).none
      of (event.Discarded i) o = no _ (dropped-aside P c i (slice_get c.flight i)).none
      of (event.Crash p n) o = no _ (crashed-aside P c p n (host c p)).none
      of event.Barrier o = barred-commits o
      of (event.Recover ps) o = no _ (opening-commits ps (at_recovery c.coordinator ps (nat_lt 0 (length (lost_list c)))).0 (at_recovery c.coordinator ps (nat_lt 0 (length (lost_list c)))).1)
      of event.Repair o = no _ (repaired-commits (at_repair c.coordinator c.coordinator.mode).1 (with_coordinator (at_repair c.coordinator c.coordinator.mode).0 c))
      of event.Discard o = no _ (discarded-commits (at_discard c.coordinator (down_among c (parties c.coordinator)) c.coordinator.mode).1
          (with_coordinator (at_discard c.coordinator (down_among c (parties c.coordinator)) c.coordinator.mode).0 (if is_recovery c.coordinator.mode then without_hosts (going_back c.coordinator (down_among c (parties c.coordinator))) c else c)))

  -- a commit finds each party up and ready
  module _ (e : Event) (commits : IsTrue (is_commit (step P c e).1)) (p : ℕ) (party : has (parties c.coordinator) p ≡ true) where
    pub all-up : is_up c p ≡ true
    all-up = not-false (is_up c p) (none-passes (λ q. not (is_up c q)) (parties c.coordinator) (committing e commits).0 p party)

    pub all-ready : has c.coordinator.ready p ≡ true
    all-ready = not-false (has c.coordinator.ready p) (find-none_of (λ q. not (has c.coordinator.ready q)) (parties c.coordinator) p (committing e commits).1 party)
