-- The cases of what a place does next where no rebuild is open, each with what its tests said.
use Rattle.std.proofs.Common.{◌≡◌, ℕ, ◌<◌, ◌≤◌, List, true, false, not, ◌&&◌, sym, ap, subst, Option, Some, None, ltb-true, ltb-false, nat_lt}
use Rattle.std.specs.List.{list_any}
use Rattle.std.proofs.lemmas.Bool.{and_parts, and_left, and_right, not-true, not-false, and_from, both_ways, true_from_ne_false}
use Rattle.gr_batch.specs.declared.batch.Batch.{Batch}
use Rattle.gr_batch.specs.declared.stage.Stage.{Stage}
use Rattle.gr_batch.specs.Stages.{is_end}
use Rattle.gr_batch.specs.Bodies.{is_of}
use Rattle.gr_view.specs.declared.coordinator.Coordinator.{Coordinator}
use Rattle.gr_view.specs.Modes.{is_open, is_over, is_rebuild}
use Rattle.gr_rules.specs.Inbox.{missing}
use Rattle.gr_rules.specs.Exchange.{needed, unsent}
use Rattle.gr_rules.specs.Todo.{Todo, compute_or_wait}
use Rattle.gr_cluster.specs.Tables.{Host}
use Rattle.gr_cluster.specs.Todo.{others, todo}
use Rattle.gr_agree.specs.Hosts.{HasNeeded}
use Rattle.gr_lists.proofs.Tests.{by_test, by_option}
use Rattle.gr_lists.proofs.Any.{find-none_of}

-- nothing that is needed is missing
needed-there : {V A : Type 0} (inbox : List (Batch V A)) (e : ℕ) (others : List ℕ) (s : Stage) → missing inbox e s others ≡ None → HasNeeded others e inbox (Some s)
needed-there inbox e others s none = λ q m. not-false _ (find-none_of (λ r. not (list_any (is_of r e s) inbox)) others q none m)

module _ {V A : Type 0} (co : Coordinator) (p : ℕ) (h : Host V A) (no_rebuild : is_rebuild co.mode ≡ false) where
  -- computing a stage, or waiting for what it needs
  compute-or-wait : (R : Todo → Type 0) (o : Option Stage) → ((s : Stage) (q : ℕ) → R (Todo.Wait s q)) → (HasNeeded (others co p) h.epoch h.inbox o → R Todo.Compute) → R (compute_or_wait h.inbox h.epoch (others co p) o)
  compute-or-wait R None wait compute = compute tt
  compute-or-wait R (Some s) wait compute = by_option (missing h.inbox h.epoch s (others co p))
      (λ none. subst (λ m. R (or_wait s m)) (sym none) (compute (needed-there h.inbox h.epoch (others co p) s none)))
      (λ q some. subst (λ m. R (or_wait s m)) (sym some) (wait s q))
    where
      or_wait : Stage → Option ℕ → Todo
      or_wait s m = elim m [ None ↦ Todo.Compute | Some q ↦ Todo.Wait s q ]

  pub case-todo : (R : Todo → Type 0)
      → R Todo.Rest → ((s : Stage) (q : ℕ) → R (Todo.Wait s q))
      → (is_over co.mode ≡ false → h.installed < co.commits → R Todo.Install)
      → (is_over co.mode ≡ false → co.commits ≤ h.installed → h.epoch < co.epoch → R Todo.Adopt)
      → (is_over co.mode ≡ false → co.commits ≤ h.installed → co.epoch ≤ h.epoch → h.computed ≡ false → is_open co.mode ≡ true → HasNeeded (others co p) h.epoch h.inbox (needed (is_rebuild co.mode) h.stage) → R Todo.Compute)
      → ((q : ℕ) → is_over co.mode ≡ false → co.commits ≤ h.installed → co.epoch ≤ h.epoch → h.computed ≡ true → is_end h.stage ≡ false → unsent (others co p) h.sent ≡ Some q → R (Todo.Send q))
      → (is_over co.mode ≡ false → co.commits ≤ h.installed → co.epoch ≤ h.epoch → h.computed ≡ true → h.reported ≡ false → is_end h.stage ≡ true → R Todo.Report)
      → R (todo co p h)
  unfolding todo
  case-todo R rest wait install adopt compute send report = by_test (is_over co.mode)
      (λ e. rw e rest)
      (λ opened. rw opened (by_test (nat_lt h.installed co.commits)
      (λ e. rw e (install opened (ltb-true h.installed co.commits e)))
      (λ e1. let i = ltb-false h.installed co.commits e1 in rw e1 (by_test (nat_lt h.epoch co.epoch)
      (λ e. rw e (adopt opened i (ltb-true h.epoch co.epoch e)))
      (λ e2. let n = ltb-false h.epoch co.epoch e2 in rw e2 (by_test (is_open co.mode && not h.computed)
      (λ e. let k = and_parts (is_open co.mode) (not h.computed) e in rw e (compute-or-wait R (needed (is_rebuild co.mode) h.stage) wait (compute opened i n (not-true h.computed k.1) k.0)))
      (λ e3. rw e3 (by_test (h.computed && not (is_end h.stage))
      (λ e. let k = and_parts h.computed (not (is_end h.stage)) e in rw e (by_option (unsent (others co p) h.sent)
      (λ m. rw m rest)
      (λ q m. rw m (send q opened i n k.0 (not-true (is_end h.stage) k.1) m))))
      (λ e4. let no_append : (h.computed && (is_rebuild co.mode && not h.appended)) ≡ false = and_right h.computed _ (and_left _ _ no_rebuild) in rw (e4, no_append) (by_test (h.computed && not h.reported)
      (λ e. let k = and_parts h.computed (not h.reported) e in
      rw e (report opened i n k.0 (not-true h.reported k.1) (true_from_ne_false (is_end h.stage) (λ no. both_ways _ e4 (and_from h.computed (not (is_end h.stage)) k.0 (ap not no))))))
      (λ e. rw e rest)))))))))))
