-- The cases of what a place does next while a rebuild is open, each with what its tests said.
use Rattle.std.proofs.Common.{◌≡◌, ℕ, ◌<◌, ◌≤◌, List, true, false, not, ◌&&◌, sym, ap, subst, Option, Some, None, ltb-true, ltb-false, nat_lt}
use Rattle.std.specs.Prelude.{⊤}
use Rattle.std.specs.List.{list_any}
use Rattle.std.proofs.lemmas.Bool.{and_parts, not-true, not-false, and_from, both_ways, true_from_ne_false}
use Rattle.gr_batch.specs.declared.batch.Batch.{Batch}
use Rattle.gr_batch.specs.declared.stage.Stage.{Stage}
use Rattle.gr_batch.specs.Stages.{is_end}
use Rattle.gr_batch.specs.Bodies.{is_of}
use Rattle.gr_view.specs.declared.coordinator.Coordinator.{Coordinator}
use Rattle.gr_view.specs.Modes.{is_open, is_over, is_rebuild}
use Rattle.gr_rules.specs.Inbox.{missing}
use Rattle.gr_rules.specs.Exchange.{needed, unsent}
use Rattle.gr_rules.specs.Todo.{Todo, compute_or_wait}
use Rattle.gr_cluster.specs.Tables.{Host}
use Rattle.gr_cluster.specs.Todo.{others, todo}
use Rattle.gr_agree.specs.Hosts.{HasNeeded}
use Rattle.gr_lists.proofs.Tests.{by_test, by_option}
use Rattle.gr_lists.proofs.Any.{find-none_of}

-- computing a stage once what it needs is there, or waiting for it
compute-or-wait : {V A : Type 0} (inbox : List (Batch V A)) (e : ℕ) (rest : List ℕ) (R : Todo → Type 0) (o : Option Stage)
    → ((s : Stage) (q : ℕ) → R (Todo.Wait s q)) → (HasNeeded rest e inbox o → R Todo.Compute) → R (compute_or_wait inbox e rest o)
compute-or-wait inbox e rest R None wait compute = compute tt
compute-or-wait inbox e rest R (Some s) wait compute = by_option (missing inbox e s rest)
    (λ none. subst (λ m. R (or_wait m)) (sym none) (compute (λ q m. not-false _ (find-none_of (λ r. not (list_any (is_of r e s) inbox)) rest q none m))))
    (λ q some. subst (λ m. R (or_wait m)) (sym some) (wait s q))
  where
    or_wait : Option ℕ → Todo
    or_wait m = elim m [ None ↦ Todo.Compute | Some q ↦ Todo.Wait s q ]

module _ {V A : Type 0} (co : Coordinator) (p : ℕ) (h : Host V A) (rebuilding : is_rebuild co.mode ≡ true) (opened : is_over co.mode ≡ false) where
  pub case-todo : (R : Todo → Type 0)
      → R Todo.Rest → ((s : Stage) (q : ℕ) → R (Todo.Wait s q))
      → (h.installed < co.commits → R Todo.Install)
      → (co.commits ≤ h.installed → h.epoch < co.epoch → R Todo.Adopt)
      → (co.commits ≤ h.installed → co.epoch ≤ h.epoch → h.computed ≡ false → HasNeeded (others co p) h.epoch h.inbox (needed (is_rebuild co.mode) h.stage) → R Todo.Compute)
      → ((q : ℕ) → co.commits ≤ h.installed → co.epoch ≤ h.epoch → h.computed ≡ true → is_end h.stage ≡ false → unsent (others co p) h.sent ≡ Some q → R (Todo.Send q))
      → (co.commits ≤ h.installed → co.epoch ≤ h.epoch → h.computed ≡ true → is_end h.stage ≡ true → h.appended ≡ false → R Todo.Append)
      → (co.commits ≤ h.installed → co.epoch ≤ h.epoch → h.computed ≡ true → is_end h.stage ≡ true → h.appended ≡ true → h.reported ≡ false → R Todo.Report)
      → R (todo co p h)
  unfolding todo
  case-todo R rest wait install adopt compute send append report = rw opened (by_test (nat_lt h.installed co.commits)
      (λ e. rw e (install (ltb-true h.installed co.commits e)))
      (λ e1. let i = ltb-false h.installed co.commits e1 in rw e1 (by_test (nat_lt h.epoch co.epoch)
      (λ e. rw e (adopt i (ltb-true h.epoch co.epoch e)))
      (λ e2. let n = ltb-false h.epoch co.epoch e2 in rw e2 (by_test (is_open co.mode && not h.computed)
      (λ e. let k = and_parts (is_open co.mode) (not h.computed) e in rw e (compute-or-wait h.inbox h.epoch (others co p) R (needed (is_rebuild co.mode) h.stage) wait (compute i n (not-true h.computed k.1))))
      (λ e3. rw e3 (by_test (h.computed && not (is_end h.stage))
      (λ e. let k = and_parts h.computed (not (is_end h.stage)) e in rw e (by_option (unsent (others co p) h.sent)
      (λ m. rw m rest)
      (λ q m. rw m (send q i n k.0 (not-true (is_end h.stage) k.1) m))))
      (λ e4. rw e4 (by_test (h.computed && (is_rebuild co.mode && not h.appended))
      (λ e. let k = and_parts h.computed _ e in rw e (append i n k.0 (at-end k.0 e4) (not-true h.appended (and_parts (is_rebuild co.mode) _ k.1).1)))
      (λ e5. rw e5 (by_test (h.computed && not h.reported)
      (λ e. let k = and_parts h.computed (not h.reported) e in rw e (report i n k.0 (at-end k.0 e4) (is-appended k.0 e5) (not-true h.reported k.1)))
      (λ e. rw e rest))))))))))))
    where
      at-end : h.computed ≡ true → (h.computed && not (is_end h.stage)) ≡ false → is_end h.stage ≡ true
      at-end k e = true_from_ne_false (is_end h.stage) (λ n. both_ways _ e (and_from h.computed _ k (ap not n)))

      is-appended : h.computed ≡ true → (h.computed && (is_rebuild co.mode && not h.appended)) ≡ false → h.appended ≡ true
      is-appended k e = true_from_ne_false h.appended (λ n. both_ways _ e (and_from h.computed _ k (and_from (is_rebuild co.mode) _ rebuilding (ap not n))))

  -- what is known of a place by what it does next
  abbrev pub Meets : Todo → Type 0
  Meets Todo.Compute = h.computed ≡ false
  Meets (Todo.Send q) = (h.computed ≡ true) × (is_end h.stage ≡ false) × (unsent (others co p) h.sent ≡ Some q)
  Meets Todo.Append = h.appended ≡ false
  Meets Todo.Report = (h.computed ≡ true) × (is_end h.stage ≡ true) × (h.appended ≡ true) × (h.reported ≡ false)
  Meets _ = ⊤

  pub todo-meets : (x : Todo) → todo co p h ≡ x → Meets x
  todo-meets x e = subst Meets e (case-todo Meets tt (λ s q. tt) (λ _. tt) (λ _ _. tt) (λ _ _ fresh _. fresh)
      (λ q _ _ comp sends un. (comp, sends, un)) (λ _ _ _ _ fresh. fresh) (λ _ _ comp end appended fresh. (comp, end, appended, fresh)))
