-- A barrier spends an epoch where it finds a failure or commits a rebuild.
use Rattle.std.proofs.Common.{◌≡◌, ℕ, ◌+◌, List, [], ◌∷◌, Bool, true, false, not, ◌||◌, ◌==◌, refl, sym, ap, ◌∙◌, arith, if◌then◌else◌, ◌⊎◌, inl, inr, ⊎_elim}
use Rattle.std.specs.Prelude.{IsTrue}
use Rattle.std.proofs.lemmas.Bool.{and_parts, and_from, both_ways, not_from_false, or_cases, true_from_ne_false}
use Rattle.gr_base.specs.Rising.{has, union}
use Rattle.gr_base.proofs.Union.{has-union}
use Rattle.gr_program.specs.Program.{Program}
use Rattle.gr_log.specs.Log.{committed_log}
use Rattle.gr_batch.specs.declared.outcome.Outcome.{Outcome}
use Rattle.gr_sched.specs.declared.event.Event.TheVariants as event
use Rattle.gr_view.specs.declared.coordinator.Mode.TheVariants as mode
use Rattle.gr_view.specs.Modes.{is_failed, is_over, is_rebuild}
use Rattle.gr_view.specs.Decisions.{parties, looked_at, unready, rebuild_committed, round_committed, committed, verdict_on, at_barrier}
use Rattle.gr_cluster.specs.Tables.{Cluster, changed_at, is_up}
use Rattle.gr_cluster.specs.Step.{down_among, with_coordinator, with_logs_committed, after_verdict, barred, step}
use Rattle.gr_cluster.specs.Runs.{is_commit}
use Rattle.gr_cluster.specs.ToGo.{epochs_of, somebody_down, epochs_left}
use Rattle.gr_agree.specs.Truth.{Truth}
use Rattle.gr_agree.specs.Agree.{Agree}
use Rattle.gr_lists.proofs.Tests.{by_test, by_option}
use Rattle.gr_lists.proofs.Any.{has-filter, filter-none}
use Rattle.gr_law_rounds.proofs.Commit.Verdicts.{committing}
use Rattle.gr_law_rebuilds.proofs.Epoch.Crashes.{barrier-later}
use Rattle.gr_law_runs.proofs.Left.Less.{step-over}
use Rattle.gr_law_runs.proofs.Bounds.Epochs.{epochs-down, epochs-rebuild, nobody-down, Spends, same-spends, up-same}

module _ {V A : Type 0} (P : Program V A) (t : Truth V) (c : Cluster V A) (AG : Agree P t c) where
  -- ---- a commit

  parties-up : down_among c (parties c.coordinator) ≡ [] → (p : ℕ) → has (parties c.coordinator) p ≡ true → is_up c p ≡ true
  parties-up none p m = true_from_ne_false (is_up c p) (λ down.
      let listed = has-filter (λ q. not (is_up c q)) (parties c.coordinator) p in
      let nowhere : has (down_among c (parties c.coordinator)) p ≡ false = ap (λ l. has l p) none in
      both_ways _ (sym listed ∙ nowhere) (and_from _ _ m (not_from_false _ down)))

  of-union : (p : ℕ) → has (union (parties c.coordinator) []) p ≡ true → has (parties c.coordinator) p ≡ true
  of-union p m = ⊎_elim (λ y. y) (λ no. absurd (let bad : false ≡ true = no in cc)) (or_cases _ _ (sym (has-union p (parties c.coordinator) []) ∙ m))

  abbrev after_rebuild : Cluster V A
  after_rebuild = with_coordinator (rebuild_committed c.coordinator) (record c { logs = changed_at (parties c.coordinator) (λ _. committed_log) c.logs })

  rebuild-spends : down_among c (parties c.coordinator) ≡ [] → is_rebuild c.coordinator.mode ≡ true → Spends c after_rebuild
  rebuild-spends none r =
      let zero : epochs_left after_rebuild ≡ 0 = ap (epochs_of mode.Running) (nobody-down after_rebuild (λ p m. parties-up none p (of-union p m))) in
      let one = epochs-rebuild c.coordinator.mode (somebody_down c) r in
      record { spent = omega (arith, zero, one) }

  abbrev after_round : Cluster V A
  after_round = with_coordinator (round_committed c.coordinator) c

  round-spends : down_among c (parties c.coordinator) ≡ [] → Spends c after_round
  round-spends none =
      let is_last = (c.coordinator.due == 0) || (c.coordinator.round + 1 == c.coordinator.limit) in
      let looks : looked_at after_round.coordinator ≡ parties c.coordinator = ap (λ b. if b then c.coordinator.live else parties c.coordinator) (not-failed is_last) in
      let calm : somebody_down after_round ≡ false = nobody-down after_round (λ p m. parties-up none p (sym (ap (λ ps. has ps p) looks) ∙ m)) in
      let zero : epochs_left after_round ≡ 0 = ap (epochs_of after_round.coordinator.mode) calm ∙ none-left is_last in
      record { spent = omega (arith, zero) }
    where
      not-failed : (b : Bool) → is_failed (if b then mode.Done else mode.Running) ≡ false
      not-failed true = refl
      not-failed false = refl

      none-left : (b : Bool) → epochs_of (if b then mode.Done else mode.Running) false ≡ 0
      none-left true = refl
      none-left false = refl

  commit-spends : down_among c (parties c.coordinator) ≡ [] → Spends c (with_coordinator (committed c.coordinator) (with_logs_committed c))
  commit-spends none = by_test (is_rebuild c.coordinator.mode)
      (λ r. rw r (rebuild-spends none r))
      (λ n. rw n (round-spends none))

  -- ---- a failure

  record Fails (r : Cluster V A × Outcome V A) : Type 0 where
    pub commits : is_commit r.1 ≡ false
    pub mode : r.0.coordinator.mode ≡ mode.Failed
    pub epoch : r.0.coordinator.epoch ≡ c.coordinator.epoch + 1
    pub round : r.0.coordinator.round ≡ c.coordinator.round
    pub down : somebody_down c ≡ true

  -- a barrier changes nothing, commits, or finds a failure
  abbrev Told : Cluster V A × Outcome V A → Type 0
  Told r = (r.0 ≡ c) ⊎ (IsTrue (is_commit r.1) ⊎ Fails r)

  verdict-told : (ps : List ℕ) → down_among c (looked_at c.coordinator) ≡ ps → Told (after_verdict c ps (verdict_on c.coordinator ps).0 (verdict_on c.coordinator ps).1)
  verdict-told [] none = by_test (is_failed c.coordinator.mode)
      (λ f. rw f (inl refl))
      (λ f. rw f (by_option (unready c.coordinator)
      (λ u. rw u (inr (inl refl)))
      (λ p u. rw u (inl refl))))
  verdict-told (p ∷ ps) some = inr (inr (record {
    commits = refl;
    mode = refl;
    epoch = refl;
    round = refl;
    down = true_from_ne_false _ (λ no. let none : [] ≡ p ∷ ps = sym (filter-none (λ q. not (is_up c q)) (looked_at c.coordinator) no) ∙ some in cc);
  }))

  barred-told : is_over c.coordinator.mode ≡ false → Told (barred c)
  unfolding barred at_barrier
  barred-told o = rw o (verdict-told (down_among c (looked_at c.coordinator)) refl)

  step-told : is_over c.coordinator.mode ≡ false → Told (step P c event.Barrier)
  unfolding step
  step-told o = rw o (barred-told o)

  abbrev after_barrier : Cluster V A
  after_barrier = (step P c event.Barrier).0

  -- the live places are those that are up
  failure-spends : is_over c.coordinator.mode ≡ false → Fails (step P c event.Barrier) → Spends c after_barrier
  failure-spends o F =
      let d = after_barrier in
      let e = F.epoch in let n = F.round in let m = F.mode in
      let K = barrier-later P t c AG F.commits (λ same. absurd (omega (arith, same, e))) in
      let looks : looked_at d.coordinator ≡ d.coordinator.live = (λ i. if is_failed (m i) then d.coordinator.live else parties d.coordinator) in
      let calm : somebody_down d ≡ false = nobody-down d (λ p is. let live = sym (ap (λ ps. has ps p) looks) ∙ is in
      up-same c d p ((K.1.0).rows p live) ∙ (and_parts (has c.coordinator.live p) (is_up c p) (sym (K.0 p) ∙ live)).1) in
      let two : epochs_left d ≡ 2 = (λ i. epochs_of (m i) (calm i)) in
      let three : epochs_left c ≡ 3 = ap (epochs_of c.coordinator.mode) F.down ∙ epochs-down c.coordinator.mode o in
      record { spent = omega (arith, e, n, two, three) }

  pub barrier-spends : Spends c after_barrier
  barrier-spends = by_test (is_over c.coordinator.mode)
      (λ o. rw (step-over P c o event.Barrier) (same-spends c))
      (λ o. ⊎_elim
      (λ same. rw same (same-spends c))
      (λ told. ⊎_elim
      (λ y. let k = committing P c event.Barrier y in rw (k.2) (commit-spends k.0))
      (λ F. failure-spends o F)
      told)
      (step-told o))
