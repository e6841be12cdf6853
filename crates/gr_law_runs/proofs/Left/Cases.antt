-- The cases of what a place does next, in every mode, each with what its tests said.
use Rattle.std.proofs.Common.{◌≡◌, ℕ, ◌<◌, ◌≤◌, true, false, not, ◌&&◌, refl, sym, ap, ◌∙◌, subst, Option, Some, None, ltb-true, ltb-false, nat_lt}
use Rattle.std.proofs.Math.Bool.{and-false}
use Rattle.std.proofs.lemmas.Bool.{and_parts, not-true}
use Rattle.gr_batch.specs.declared.stage.Stage.{Stage}
use Rattle.gr_batch.specs.Stages.{is_end}
use Rattle.gr_view.specs.declared.coordinator.Coordinator.{Coordinator}
use Rattle.gr_view.specs.Modes.{is_open, is_over, is_rebuild}
use Rattle.gr_rules.specs.Inbox.{missing}
use Rattle.gr_rules.specs.Exchange.{needed, unsent}
use Rattle.gr_rules.specs.Todo.{Todo, compute_or_wait}
use Rattle.gr_cluster.specs.Tables.{Host}
use Rattle.gr_cluster.specs.Todo.{others, todo}
use Rattle.gr_lists.proofs.Tests.{by_test, by_option}

module _ {V A : Type 0} (co : Coordinator) (p : ℕ) (h : Host V A) where
  -- no commit is left to install, and no epoch to adopt
  pub record IsCurrent : Type 0 where
    pub installed : co.commits ≤ h.installed
    pub epoch : co.epoch ≤ h.epoch

  -- a stage is computed, or waits for a batch
  pub record AtStart (R : Todo → Type 0) : Type 0 where
    pub compute : R Todo.Compute
    pub wait : (s : Stage) (q : ℕ) → needed (is_rebuild co.mode) h.stage ≡ Some s → missing h.inbox h.epoch s (others co p) ≡ Some q → R (Todo.Wait s q)

  pub record Cases (R : Todo → Type 0) : Type 0 where
    pub over : is_over co.mode ≡ true → R Todo.Rest
    pub install : h.installed < co.commits → R Todo.Install
    pub adopt : h.epoch < co.epoch → R Todo.Adopt
    pub start : IsCurrent → is_open co.mode ≡ true → h.computed ≡ false → AtStart R
    pub idle : IsCurrent → is_over co.mode ≡ false → is_open co.mode ≡ false → h.computed ≡ false → R Todo.Rest
    pub send : IsCurrent → is_over co.mode ≡ false → h.computed ≡ true → is_end h.stage ≡ false → (q : ℕ) → unsent (others co p) h.sent ≡ Some q → R (Todo.Send q)
    pub all_sent : IsCurrent → h.computed ≡ true → is_end h.stage ≡ false → unsent (others co p) h.sent ≡ None → R Todo.Rest
    pub append : IsCurrent → h.computed ≡ true → is_rebuild co.mode ≡ true → h.appended ≡ false → R Todo.Append
    pub report : IsCurrent → is_over co.mode ≡ false → h.computed ≡ true → h.reported ≡ false → R Todo.Report
    pub rest : IsCurrent → h.computed ≡ true → h.reported ≡ true → R Todo.Rest

  module _ (R : Todo → Type 0) where
    starting : (o : Option Stage) → needed (is_rebuild co.mode) h.stage ≡ o → AtStart R → R (compute_or_wait h.inbox h.epoch (others co p) o)
    starting None is S = S.compute
    starting (Some s) is S = by_option (missing h.inbox h.epoch s (others co p))
        (λ none. subst (λ m. R (or_wait s m)) (sym none) S.compute)
        (λ q some. subst (λ m. R (or_wait s m)) (sym some) (S.wait s q is some))
      where
        or_wait : Stage → Option ℕ → Todo
        or_wait s m = elim m [ None ↦ Todo.Compute | Some q ↦ Todo.Wait s q ]

    pub by-todo : Cases R → R (todo co p h)
    unfolding todo
    by-todo C = by_test (is_over co.mode)
        (λ e. rw e (C.over e))
        (λ o. rw o (by_test (nat_lt h.installed co.commits)
        (λ e. rw e (C.install (ltb-true h.installed co.commits e)))
        (λ e1. rw e1 (by_test (nat_lt h.epoch co.epoch)
        (λ e. rw e (C.adopt (ltb-true h.epoch co.epoch e)))
        (λ e2. let K : IsCurrent = record { installed = ltb-false h.installed co.commits e1; epoch = ltb-false h.epoch co.epoch e2 } in rw e2 (by_test h.computed
        (λ y. by_test (is_end h.stage)
        (λ e. by_test (is_rebuild co.mode && not h.appended)
        (λ k. let a = and_parts (is_rebuild co.mode) (not h.appended) k in let off : (is_open co.mode && not h.computed) ≡ false = shut y in rw (off, y, e, k) (C.append K y a.0 (not-true h.appended a.1)))
        (λ k. let off : (is_open co.mode && not h.computed) ≡ false = shut y in by_test h.reported
        (λ r. rw (off, y, e, k, r) (C.rest K y r))
        (λ r. rw (off, y, e, k, r) (C.report K o y r))))
        (λ e. let off : (is_open co.mode && not h.computed) ≡ false = shut y in by_option (unsent (others co p) h.sent)
        (λ u. rw (off, y, e, u) (C.all_sent K y e u))
        (λ q u. rw (off, y, e, u) (C.send K o y e q u))))
        (λ n. by_test (is_open co.mode)
        (λ w. rw (w, n) (starting (needed (is_rebuild co.mode) h.stage) refl (C.start K w n)))
        (λ w. rw (w, n) (C.idle K o w n)))))))))
      where
        shut : h.computed ≡ true → (is_open co.mode && not h.computed) ≡ false
        shut y = ap (λ b. is_open co.mode && not b) y ∙ and-false (is_open co.mode)
