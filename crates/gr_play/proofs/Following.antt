-- What comes next where nobody chooses.
use Rattle.std.proofs.Common.{◌≡◌, ◌<◌, ℕ, List, [], ◌∷◌, length, Bool, true, false, not, ◌&&◌, nat_lt, filter, take, lt-ltb, refl, ap, ◌∙◌, arith, Option, Some, None}
use Rattle.std.specs.List.{find, list_any}
use Rattle.gr_base.specs.Places.{below}
use Rattle.gr_batch.specs.declared.batch.Batch.{Batch}
use Rattle.gr_sched.specs.declared.event.Event.TheVariants as event
use Rattle.gr_view.specs.Modes.{is_over, is_failed}
use Rattle.gr_cluster.specs.Tables.{Cluster, host, is_up}
use Rattle.gr_cluster.specs.Step.{down_among}
use Rattle.gr_cluster.specs.Todo.{can_work}
use Rattle.gr_cluster.specs.Canonical.{is_crash_unseen, canonical_decision, canonical_work, canonical_among, next_canonical}
use Rattle.gr_lists.proofs.Tests.{by_test}

module _ {V A : Type 0} (c : Cluster V A) where
  pub canonical-over : is_over c.coordinator.mode ≡ true → None ≡ next_canonical c
  unfolding next_canonical
  canonical-over o = rw o refl

  module _ (over : is_over c.coordinator.mode ≡ false) where
    canonical-is : Some (canonical_among c c.flight) ≡ next_canonical c
    unfolding next_canonical
    canonical-is = rw over refl

    pub canonical-deliver : 0 < length c.flight → Some (event.Deliver 0) ≡ next_canonical c
    canonical-deliver some = of c.flight some ∙ canonical-is
      where
        of : (bs : List (Batch V A)) → 0 < length bs → Some (event.Deliver 0) ≡ Some (canonical_among c bs)
        of [] lt = absurd (omega arith)
        of (b ∷ bs) lt = refl

    canonical-unsent : length c.flight ≡ 0 → (o : Option ℕ) → o ≡ find (λ p. can_work c.coordinator p (host c p)) (below c.places) → Some (canonical_work c o) ≡ next_canonical c
    canonical-unsent none o is = ap (λ x. Some (canonical_work c x)) is ∙ (of c.flight none ∙ canonical-is)
      where
        of : (bs : List (Batch V A)) → length bs ≡ 0 → Some (canonical_work c (find (λ p. can_work c.coordinator p (host c p)) (below c.places))) ≡ Some (canonical_among c bs)
        of [] e = refl
        of (b ∷ bs) e = absurd (omega arith)

    pub canonical-worker : length c.flight ≡ 0 → (p : ℕ) → Some p ≡ find (λ p. can_work c.coordinator p (host c p)) (below c.places) → Some (event.Work p) ≡ next_canonical c
    canonical-worker none p is = canonical-unsent none (Some p) is

    pub canonical-decided : length c.flight ≡ 0 → None ≡ find (λ p. can_work c.coordinator p (host c p)) (below c.places) → Some (canonical_decision c) ≡ next_canonical c
    canonical-decided none is = canonical-unsent none None is

any-filter : {X : Type 0} (f : X → Bool) (xs : List X) → nat_lt 0 (length (filter f xs)) ≡ list_any f xs
any-filter f [] = refl
any-filter f (x ∷ xs) = by_test (f x) (λ y. rw y (lt-ltb 0 (length (x ∷ filter f xs)) (omega arith))) (λ n. rw n (any-filter f xs))

module _ {V A : Type 0} (c : Cluster V A) where
  -- a live place that is down is a crash that no barrier has seen
  pub unseen-down : nat_lt 0 (length (down_among c c.coordinator.live)) ≡ is_crash_unseen c
  unseen-down = any-filter (λ p. not (is_up c p)) c.coordinator.live

  -- a recovery where something has failed and no crash is unseen, and else a barrier
  pub decision-recover : (is_failed c.coordinator.mode && not (is_crash_unseen c)) ≡ true → event.Recover (take c.coordinator.spares c.coordinator.dead) ≡ canonical_decision c
  decision-recover y = rw y refl

  pub decision-barrier : (is_failed c.coordinator.mode && not (is_crash_unseen c)) ≡ false → event.Barrier ≡ canonical_decision c
  decision-barrier n = rw n refl
