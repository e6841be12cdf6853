-- What each batch in flight and in an inbox meets, each does after a step too, where the batch that the step sends meets it.
use Rattle.std.proofs.Common.{◌≡◌, ℕ, zero, suc, ◌+◌, List, [], ◌∷◌, ◌++◌, true, ◌||◌, refl, Option, Some, None, slice_get, nat_lt, get_or, set, map, length, if◌then◌else◌}
use Rattle.std.specs.Prelude.{is_none, ⊤}
use Rattle.std.specs.List.{AllByRecursion as Each, enumerate_from}
use Rattle.gr_base.specs.Rising.{has}
use Rattle.gr_program.specs.Program.{Program}
use Rattle.gr_batch.specs.declared.batch.Batch.{Batch}
use Rattle.gr_batch.specs.declared.outcome.Outcome.{Outcome}
use Rattle.gr_batch.specs.declared.outcome.Outcome.TheVariants as outcome
use Rattle.gr_sched.specs.declared.event.Event.{Event}
use Rattle.gr_sched.specs.declared.event.Event.TheVariants as event
use Rattle.gr_view.specs.declared.coordinator.Coordinator.{Coordinator}
use Rattle.gr_view.specs.declared.coordinator.Verdict.{Verdict}
use Rattle.gr_view.specs.declared.coordinator.Verdict.TheVariants as verdict
use Rattle.gr_view.specs.declared.coordinator.Opening.{Opening}
use Rattle.gr_view.specs.declared.coordinator.Opening.TheVariants as opening
use Rattle.gr_view.specs.Modes.{is_over, is_rebuild, is_recovery}
use Rattle.gr_view.specs.Decisions.{parties, looked_at, going_back, at_barrier, at_recovery, at_repair, at_discard}
use Rattle.gr_rules.specs.Todo.{Todo}
use Rattle.gr_cluster.specs.Tables.{Host, Cluster, changed_at, host, inbox_of}
use Rattle.gr_cluster.specs.Todo.{others, todo}
use Rattle.gr_cluster.specs.Place.{staged_rows, staged_arcs, batch_to}
use Rattle.gr_cluster.specs.Work.{installed_host, adopted_host, computed_host, sent_host, worked, worked_at}
use Rattle.gr_cluster.specs.Network.{received, delivered, dropped, crashed}
use Rattle.gr_cluster.specs.Step.{down_among, without_hosts, with_coordinator, after_verdict, barred, lost_list, with_reborn, after_opening, recovered, opened_or_idle, repaired, discarded_or_idle, discarded, taken_step, step}
use Rattle.gr_lists.proofs.Tests.{by_test}
use Rattle.gr_lists.proofs.Each.{Each-append, Each-remove, Each-get, Each-filter}

-- ---- the entries of a table

module _ {X : Type 0} (R : X → Type 0) where
  Each-set : (xs : List X) (i : ℕ) (x : X) → R x → Each R xs → Each R (set xs i x)
  Each-set [] zero x r h = tt
  Each-set [] (suc i) x r h = tt
  Each-set (y ∷ ys) zero x r h = (r, h.1)
  Each-set (y ∷ ys) (suc i) x r h = (h.0, Each-set ys i x r h.1)

  pub Each-get_or : (xs : List X) (i : ℕ) (d : X) → R d → Each R xs → R (get_or xs i d)
  Each-get_or [] zero d r h = r
  Each-get_or [] (suc i) d r h = r
  Each-get_or (x ∷ xs) zero d r h = h.0
  Each-get_or (x ∷ xs) (suc i) d r h = Each-get_or xs i d r h.1

  Each-right : (xs ys : List X) → Each R (xs ++ ys) → Each R ys
  Each-right [] ys h = h
  Each-right (x ∷ xs) ys h = Each-right xs ys h.1

  Each-changed_from : (ps : List ℕ) (f : ℕ → X → X) → ((p : ℕ) (x : X) → R (f p x)) → (k : ℕ) (xs : List X) → Each R xs
      → Each R (map (λ x. if has ps x.0 then f x.0 x.1 else x.1) (enumerate_from k xs))
  Each-changed_from ps f new k [] h = tt
  Each-changed_from ps f new k (x ∷ xs) h = (
    by_test (has ps k) (λ y. rw y (new k x)) (λ y. rw y h.0),
    Each-changed_from ps f new (k + 1) xs h.1,
  )

  -- entries that are changed meet it, and the others did
  Each-changed : (ps : List ℕ) (f : ℕ → X → X) (xs : List X) → ((p : ℕ) (x : X) → R (f p x)) → Each R xs → Each R (changed_at ps f xs)
  Each-changed ps f xs new h = Each-changed_from ps f new 0 xs h

-- ---- all batches of a cluster

module _ {V A : Type 0} (Q : Batch V A → Type 0) where
  -- each batch in an inbox, and in flight
  abbrev pub IsInbox : Option (Host V A) → Type 0
  IsInbox o = Each Q (inbox_of o)

  pub record AllBatches (c : Cluster V A) : Type 0 where
    pub flight : Each Q c.flight
    pub hosts : Each IsInbox c.hosts

  -- the batch of a delivery
  abbrev pub TellsOf : Outcome V A → Type 0
  TellsOf (outcome.Delivered b fate) = Q b
  TellsOf _ = ⊤

  -- all batches after a step, and the one that it delivered
  pub record Spreads (r : Cluster V A × Outcome V A) : Type 0 where
    pub all : AllBatches r.0
    pub told : TellsOf r.1

  module _ (P : Program V A) (c : Cluster V A) (B : AllBatches c) where
    at-host : (p : ℕ) → IsInbox (host c p)
    at-host p = Each-get_or IsInbox c.hosts p None tt B.hosts

    -- a host is set at a place
    with-host : (p : ℕ) (o : Option (Host V A)) → IsInbox o → Each IsInbox (set c.hosts p o)
    with-host p o k = Each-set IsInbox c.hosts p o k B.hosts

    same : AllBatches c
    same = B

    -- what is sent, where something is, meets it
    abbrev SendsOnly : Cluster V A → Type 0
    SendsOnly d = Each (λ b. b.epoch ≡ d.coordinator.epoch → Q b) d.flight

    worked-spreads : (p : ℕ) (h : Host V A) (x : Todo) → Each Q h.inbox → SendsOnly (worked P c p h x).0 → Spreads (worked P c p h x)
    unfolding worked
    worked-spreads p h Todo.Install k sends = record { all = record { flight = B.flight; hosts = with-host p (Some (installed_host h)) k }; told = tt }
    worked-spreads p h Todo.Adopt k sends = record {
      all = record { flight = B.flight; hosts = with-host p (Some (adopted_host c.coordinator.epoch c.coordinator.mode h)) (Each-filter Q _ h.inbox k) };
      told = tt;
    }
    worked-spreads p h Todo.Compute k sends = record {
      all = record { flight = B.flight; hosts = with-host p (Some (computed_host (others c.coordinator p) (staged_rows P c p h h.stage) (staged_arcs P c p h h.stage) h)) k };
      told = tt;
    }
    worked-spreads p h (Todo.Send q) k sends = record {
      all = record {
        flight = Each-append Q c.flight (batch_to P c p h q ∷ []) B.flight ((Each-right _ c.flight (batch_to P c p h q ∷ []) sends).0 refl, tt);
        hosts = with-host p (Some (sent_host (others c.coordinator p) q h)) k;
      };
      told = tt;
    }
    worked-spreads p h Todo.Append k sends = record { all = record { flight = B.flight; hosts = with-host p (Some (record h { appended = true })) k }; told = tt }
    worked-spreads p h Todo.Report k sends = record { all = record { flight = B.flight; hosts = with-host p (Some (record h { reported = true })) k }; told = tt }
    worked-spreads p h (Todo.Wait s q) k sends = record { all = same; told = tt }
    worked-spreads p h Todo.Rest k sends = record { all = same; told = tt }

    worked_at-spreads : (p : ℕ) (o : Option (Host V A)) → IsInbox o → SendsOnly (worked_at P c p o).0 → Spreads (worked_at P c p o)
    worked_at-spreads p None k sends = record { all = same; told = tt }
    worked_at-spreads p (Some h) k sends = worked-spreads p h (todo c.coordinator p h) k sends

    received-inbox : (b : Batch V A) → Q b → (o : Option (Host V A)) → IsInbox o → IsInbox (received b o)
    received-inbox b q None k = tt
    received-inbox b q (Some h) k = by_test (nat_lt b.epoch h.epoch)
        (λ old. rw old k)
        (λ new. rw new (Each-append Q h.inbox (b ∷ []) k (q, tt)))

    delivered-spreads : (i : ℕ) (o : Option (Batch V A)) → slice_get c.flight i ≡ o → Spreads (delivered c i o)
    unfolding delivered
    delivered-spreads i None is = record { all = same; told = tt }
    delivered-spreads i (Some b) is = let q = Each-get Q b c.flight i is B.flight in record {
      all = record {
        flight = Each-remove Q c.flight i B.flight;
        hosts = with-host b.receiver (received b (host c b.receiver)) (received-inbox b q (host c b.receiver) (at-host b.receiver));
      };
      told = q;
    }

    dropped-spreads : (i : ℕ) (o : Option (Batch V A)) → Spreads (dropped c i o)
    unfolding dropped
    dropped-spreads i None = record { all = same; told = tt }
    dropped-spreads i (Some b) = by_test (nat_lt b.epoch c.coordinator.epoch || is_none (host c b.sender))
        (λ y. rw y (record { all = record { flight = Each-remove Q c.flight i B.flight; hosts = B.hosts }; told = tt }))
        (λ y. rw y (record { all = same; told = tt }))

    crashed-spreads : (p n : ℕ) (o : Option (Host V A)) → Spreads (crashed c p n o)
    unfolding crashed
    crashed-spreads p n None = record { all = same; told = tt }
    crashed-spreads p n (Some h) = record { all = record { flight = B.flight; hosts = with-host p None tt }; told = tt }

    -- hosts go back, and new ones start without batches
    gone-hosts : (ps : List ℕ) → AllBatches (without_hosts ps c)
    gone-hosts ps = record { flight = B.flight; hosts = Each-changed IsInbox ps (λ _ _. None) c.hosts (λ p o. tt) B.hosts }

    begun-hosts : (ps : List ℕ) → AllBatches (with_reborn ps c)
    begun-hosts ps = record { flight = B.flight; hosts = Each-changed IsInbox ps _ c.hosts (λ p o. tt) B.hosts }

    under : (co : Coordinator) (d : Cluster V A) → AllBatches d → AllBatches (with_coordinator co d)
    under co d K = record { flight = K.flight; hosts = K.hosts }

    verdict-spreads : (ps : List ℕ) (co : Coordinator) (v : Verdict) → Spreads (after_verdict c ps co v)
    verdict-spreads ps co (verdict.Failed qs) = record { all = under co (without_hosts (going_back c.coordinator ps) c) (gone-hosts (going_back c.coordinator ps)); told = tt }
    verdict-spreads ps co (verdict.Committed n r d) = by_test (is_rebuild c.coordinator.mode)
        (λ y. rw y (record { all = record { flight = B.flight; hosts = B.hosts }; told = tt }))
        (λ y. rw y (record { all = record { flight = B.flight; hosts = B.hosts }; told = tt }))
    verdict-spreads ps co (verdict.NotReady p) = record { all = same; told = tt }
    verdict-spreads ps co verdict.Idle = record { all = same; told = tt }

    opening-spreads : (ps : List ℕ) (co : Coordinator) (x : Opening) → Spreads (after_opening c ps co x)
    opening-spreads ps co (opening.Opened e) = record { all = under co (with_reborn ps c) (begun-hosts ps); told = tt }
    opening-spreads ps co opening.Lost = record { all = record { flight = B.flight; hosts = B.hosts }; told = tt }
    opening-spreads ps co opening.Idle = record { all = same; told = tt }

    opened-spreads : (o : Option ℕ) (d : Cluster V A) → AllBatches d → Spreads (opened_or_idle c o d)
    opened-spreads None d K = record { all = same; told = tt }
    opened-spreads (Some e) d K = record { all = K; told = tt }

    discarded-spreads : (o : Option ℕ) (d : Cluster V A) → AllBatches d → Spreads (discarded_or_idle c o d)
    discarded-spreads None d K = record { all = same; told = tt }
    discarded-spreads (Some e) d K = record { all = K; told = tt }

    taken-spreads : (e : Event) → SendsOnly (taken_step P c e).0 → Spreads (taken_step P c e)
    unfolding barred recovered repaired discarded
    taken-spreads (event.Work p) sends = worked_at-spreads p (host c p) (at-host p) sends
    taken-spreads (event.Deliver i) sends = delivered-spreads i (slice_get c.flight i) refl
    taken-spreads (event.Discarded i) sends = dropped-spreads i (slice_get c.flight i)
    taken-spreads (event.Crash p n) sends = crashed-spreads p n (host c p)
    taken-spreads event.Barrier sends =
        let ps = down_among c (looked_at c.coordinator) in let x = at_barrier c.coordinator ps in verdict-spreads ps x.0 x.1
    taken-spreads (event.Recover ps) sends =
        let x = at_recovery c.coordinator ps (nat_lt 0 (length (lost_list c))) in opening-spreads ps x.0 x.1
    taken-spreads event.Repair sends =
        let x = at_repair c.coordinator c.coordinator.mode in opened-spreads x.1 (with_coordinator x.0 c) (under x.0 c same)
    taken-spreads event.Discard sends =
        let ps = down_among c (parties c.coordinator) in
        let x = at_discard c.coordinator ps c.coordinator.mode in
        let d = if is_recovery c.coordinator.mode then without_hosts (going_back c.coordinator ps) c else c in
        let K : AllBatches d = by_test (is_recovery c.coordinator.mode) (λ y. rw y (gone-hosts (going_back c.coordinator ps))) (λ y. rw y same) in
        discarded-spreads x.1 (with_coordinator x.0 d) (under x.0 d K)

    pub step-spreads : (e : Event) → SendsOnly (step P c e).0 → Spreads (step P c e)
    unfolding step
    step-spreads e = by_test (is_over c.coordinator.mode)
        (λ o. rw o (λ sends. record { all = same; told = tt }))
        (λ o. rw o (taken-spreads e))
